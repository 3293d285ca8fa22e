-- Where every element fits a table, so do the families of the layout, and the pattern. Assumes nothing.
use mathlib.Core.Path.{◌≡◌, refl}
use mathlib.Core.Bool.{true, ◌&&◌}
use Prim.Native.Nat.{ℕ, ◌≤◌, ◌<◌}
use native.Mathlib.Omega.{arith}
use lib.Dec.{leb}
use Rattle.counting.proofs.Elements.{first_lt}
use Rattle.families.specs.declared.Layout.{Layout}
use Rattle.families.specs.Forest.{end_of}
use Rattle.families.specs.Decoded.{selections}
use Rattle.maps.specs.Selected.{families_of, selection_of, PatternOk}
use Rattle.maps.proofs.Chosen.{families_tree, selection_ok}
use Rattle.runs.specs.Walking.{FitsTable, SideOk}
use Rattle.runs.proofs.Room.{side_smaller}
use Rattle.trays.specs.Tables.{FitsAll}
use Rattle.trays.proofs.Owners.{selections_long}

-- what `fits` says of element e, where it says yes
abbrev pub Fitting : Layout → (size room e : ℕ) → Type 0
Fitting t size room e =
    let s = selection_of t size e in (leb (end_of (families_of s t.family)) room && leb s.period room) ≡ true

module _ {t : Layout} {size : ℕ} (P : PatternOk t size) where
  -- a pattern that has an offset has an element
  elements_some : 1 ≤ t.elements
  elements_some = omega (arith, first_lt (selections 4 t) 0 (omega (arith, P.once 0 P.least)), selections_long t)

  module _ (e : ℕ) (h : e < t.elements) where
    chosen_side : SideOk (selection_of t size e) t.family 65536 t.displacement
    unfolding selection_of
    chosen_side = record {
      ok = selection_ok t size P e h;
      fits = record { ruled = rw (families_tree t e size) (P.ok.ruled e h); period = P.most };
      after = omega arith;
    }

    chosen_fits : {room : ℕ} → Fitting t size room e → FitsTable (selection_of t size e) t.family room
    chosen_fits {room} fit = (side_smaller chosen_side room _ refl fit).fits

  pub rooming_all : {room : ℕ} → ((e : ℕ) → e < t.elements → Fitting t size room e) → FitsAll t size room
  unfolding selection_of
  rooming_all fit = record {
    ruled = record {
      room = P.ok.room;
      used = P.ok.used;
      some = P.ok.some;
      ruled = λ e h. rw (families_tree t e size) at (chosen_fits e h (fit e h)).ruled;
    };
    held = let some : 0 < t.elements = omega (arith, elements_some) in (chosen_fits 0 some (fit 0 some)).period;
  }
