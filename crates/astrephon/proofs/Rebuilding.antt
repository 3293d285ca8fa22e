-- GATHER AND SCATTER AGREE WITH THE TRAY: it is the gathers in element order, and every element scattered rebuilds the file buffer. Of calls that met their
-- contracts. Assumes nothing.
use mathlib.Core.Path.{◌≡◌, refl, sym, ap, ap₂, ◌∙◌}
use mathlib.Core.Bool.{Bool}
use mathlib.Core.List.{List, [], ◌∷◌, ◌++◌, foldl, Memᴰ}
use mathlib.Core.Logic.{⊎_elim}
use Prim.Native.Nat.{ℕ, zero, suc, ◌+◌, ◌-◌, ◌≤◌, ◌<◌}
use native.Mathlib.Omega.{arith}
use lib.ListN.{length}
use Rattle.counting.specs.Gather.{in_file, gathered, scattered, tabulated}
use Rattle.counting.specs.Elements.{element}
use Rattle.counting.specs.Trays.{tray, scattered_all}
use Rattle.counting.proofs.Cases.{lt_or_le}
use Rattle.counting.proofs.Gathers.{tabulated_ext, tabulated_whole}
use Rattle.counting.proofs.Elements.{element_tabulated}
use Rattle.counting.proofs.Scatters.{length_scattered, scattered_all_lem}
use Rattle.sheets.specs.Sheet.{read_sheet, Reading}
use Rattle.openings.specs.Offsets.{offsets_of}
use Rattle.astrephon.specs.Moves.{elements_read}
use Rattle.astrephon.specs.Sequences.{Takes, Forward, Packs}
use Rattle.astrephon.proofs.Sequences.{Gathered, Scattered, Gathers, Scatters}
use Rattle.astrephon.proofs.Accepting.{window_fine, gather_made, scatter_made, gathered_long, scatter_absent}
use Rattle.astrephon.proofs.Trays.{elements_length, past_none, shared_out}

module _ {xs : List ℕ} {a b : ℕ} (X : Takes xs a) (W : Forward a b) (packs : ℕ → List ℕ) (long : Packs xs packs a b) (file : List ℕ) (whole : length file ≡ b - a) where
  abbrev r : Reading
  r = read_sheet xs

  abbrev f : ℕ → ℕ
  f = in_file a file

  gather_leaves : (e : ℕ) → e < r.layout.elements → (packed : List ℕ) → Gathered xs e a b file (packs e) packed → packed ≡ gathered (offsets_of r e) a (b - a) f
  gather_leaves e h packed made = (gather_made xs e a b file (packs e) packed made.0 made.1 (window_fine W X e h) whole (long e h) made.2).1

  -- of the elements from k on
  gathers_from : (k n : ℕ) → k + n ≤ r.layout.elements → (all : List ℕ) → Gathers xs packs (tabulated k n (λ e. e)) a b file all → all ≡ tray (tabulated k n (offsets_of r)) a (b - a) f
  unfolding Gathers tabulated tray
  gathers_from k zero h all made = made
  gathers_from k (suc n) h all made = made.4 ∙ ap₂ (λ (u v : List ℕ). u ++ v) (gather_leaves k (omega arith) made.0 made.2) (gathers_from (suc k) n (omega arith) made.1 made.3)

  -- THE TRAY IS THE GATHERS in element order
  pub tray_gathers : (all : List ℕ) → Gathers xs packs (tabulated 0 r.layout.elements (λ e. e)) a b file all → all ≡ tray (elements_read r) a (b - a) f
  tray_gathers all made = gathers_from 0 r.layout.elements (omega arith) all made

  -- ---- what a scatter of what was gathered leaves. Where the element is none, nothing is written
  put_back : List ℕ → ℕ → List ℕ
  put_back v e = scattered (element (elements_read r) e) a (b - a) (gathered (element (elements_read r) e) a (b - a) f) v

  scatter_leaves : (e : ℕ) (packed v later : List ℕ) → length v ≡ b - a → Gathered xs e a b file (packs e) packed → Scattered xs e a b packed v later → later ≡ put_back v e
  unfolding put_back scattered
  scatter_leaves e packed v later l first second = ⊎_elim
      (λ there.
      let is : packed ≡ gathered (offsets_of r e) a (b - a) f = gather_leaves e there packed first in
      let fine = window_fine W X e there in
      (scatter_made xs e a b packed v later second.0 second.1 fine l (ap length is ∙ gathered_long fine f) second.2).1
      ∙ ap (λ (u : List ℕ). scattered (offsets_of r e) a (b - a) u v) is
      ∙ ap (λ (p : ℕ → Bool). scattered p a (b - a) (gathered p a (b - a) f) v) (sym (element_tabulated (offsets_of r) r.layout.elements e there)))
      (λ past.
      second.2.1
      ∙ scatter_absent W X e past packed v
      ∙ sym (tabulated_whole a (b - a) v l)
      ∙ tabulated_ext a (b - a) _ _ (λ x _ _. rw (past_none xs e past x) refl))
      (lt_or_le e r.layout.elements)

  scatters_leave : (elements v last : List ℕ) → length v ≡ b - a → Scatters xs packs elements a b file v last → last ≡ scattered_all (elements_read r) a (b - a) f elements v
  unfolding Scatters scattered_all put_back
  scatters_leave [] v last l made = made
  scatters_leave (e ∷ rest) v last l made =
      let now = scatter_leaves e made.0 v made.1 l made.2 made.3 in
      scatters_leave rest made.1 last (ap length now ∙ length_scattered (element (elements_read r) e) a (b - a) _ v) made.4 ∙ ap (λ (u : List ℕ). foldl put_back u rest) now

  -- EVERY ELEMENT SCATTERED, in any order and each at least once, rebuilds the file buffer
  pub scatters_rebuild : (elements : List ℕ) → ((e : ℕ) → e < r.layout.elements → Memᴰ e elements) → (held last : List ℕ) → length held ≡ b - a
      → Scatters xs packs elements a b file held last → last ≡ file
  scatters_rebuild elements each held last l made =
      scatters_leave elements held last l made
      ∙ scattered_all_lem (elements_read r) a (b - a) f (shared_out X (b - a)) elements (λ e h. each e (omega (arith, elements_length r))) held l
      ∙ tabulated_whole a (b - a) file whole
