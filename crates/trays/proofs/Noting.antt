-- What `moving` asks of what it calls, and what it makes of the answers. Assumes nothing.
use mathlib.Core.Path.{◌≡◌, sym, ap, ◌∙◌}
use mathlib.Core.List.{List}
use Prim.Native.Nat.{ℕ, ◌≤◌}
use native.Mathlib.Omega.{arith}
use lib.ListN.{length}
use lib.Seq.{take_all}
use Rattle.counting.specs.Elements.{Elements, Partition}
use Rattle.counting.specs.Trays.{moved, pair_moved}
use Rattle.families.specs.declared.Layout.{Layout}
use Rattle.maps.specs.declared.window.Window.{Window}
use Rattle.maps.specs.Selected.{elements_of, PatternOk}
use Rattle.moves.specs.declared.ahead.Stride.{Stride}
use Rattle.moves.specs.Strides.{Filled}
use Rattle.moves.specs.Owning.{held_by}
use Rattle.parts.specs.declared.choices.Chosen.{Chosen}
use Rattle.parts.specs.declared.shares.Share.{Share}
use Rattle.parts.specs.Tabled.{Ranked}
use Rattle.parts.specs.Pieces.{bytes_of, SharesOf, Written, every_pair, one_pair}
use Rattle.trays.specs.Tables.{Tables}
use Rattle.trays.specs.Parts.{cycle_of, Prepared, moved_where}
use Rattle.trays.proofs.Layouts.{elements_length, elements_share, tables_strides, tables_ahead}
use Rattle.trays.proofs.Choices.{length_where, where_all, where_pair}

-- ---- what is written down of a layout
module _ {t : Layout} {size : ℕ} (P : PatternOk t size) {owners : List ℕ} {strides : List Stride} (T : Tables t size owners strides) where
  -- every place has an owner, so some table is filled
  filled : Filled (held_by owners 1) size strides
  filled =
      let first = P.least in
      T.each 0 (omega (arith, T.owned.some 0 first, T.owned.most 0 first))

  module _ (w : Window) (after : t.displacement ≤ w.start.0) where
    pub sources_noted : {ranks : List ℕ} {shares : List Share} → Ranked owners size ranks
        → SharesOf (elements_of t size) t.displacement size w.start.0 (bytes_of w) shares
        → Written (cycle_of t size) w.start.0 (bytes_of w) owners strides ranks shares
    sources_noted R H = record {
      owned = T.owned;
      some = P.least;
      short = omega (arith, P.most);
      after = after;
      near = omega (arith, w.ok.ordered, w.ok.near);
      held = filled.held;
      ahead = tables_ahead t size T;
      ranked = R;
      shared = rw T.is H;
    }

    pub targets_noted : {shares : List Share} → SharesOf (elements_of t size) t.displacement size w.start.0 (bytes_of w) shares
        → Prepared t size w strides shares
    targets_noted H = record {
      after = after;
      ahead = tables_strides t size T P;
      shared = H;
    }

-- ---- a layout of elements L, and one whose pattern is shared out
module _ (L : Elements) (t2 : Layout) (size2 : ℕ) (P : PatternOk t2 size2) (w : Window) (after : t2.displacement ≤ w.start.0) where
  abbrev M : Elements
  M = elements_of t2 size2

  abbrev a : ℕ
  a = w.start.0

  shared : Partition M a (bytes_of w)
  shared = elements_share t2 size2 P _ _ after

  module _ (t u : List ℕ) where
    -- an empty window has nothing to move
    pub moved_empty : (c : Chosen) → length u ≡ bytes_of w → w.end.0 ≤ w.start.0 → u ≡ moved_where L M a (bytes_of w) t c u
    moved_empty c long empty =
        let v = moved_where L M a (bytes_of w) t c u in
        let none : length v ≤ 0 = omega (arith, length_where L M a (bytes_of w) shared t u c) in
        sym (take_all 0 u (omega (arith, long))) ∙ take_all 0 v none

    -- what `move_chosen` makes of the tray, where all is chosen, and one pair
    module _ (v : List ℕ) (c : Chosen) (e : v ≡ moved_where L M a (bytes_of w) t c u) where
      pub moved_whole : c ≡ every_pair t2.elements → v ≡ moved L M a (bytes_of w) t
      moved_whole all =
          e
          ∙ ap (λ (b : Chosen). moved_where L M a (bytes_of w) t b u) (all ∙ ap every_pair (sym (elements_length t2 size2)))
          ∙ where_all L M a (bytes_of w) shared t u

      pub moved_pair : (i j : ℕ) → c ≡ one_pair i j → v ≡ pair_moved L M a (bytes_of w) t i j u
      moved_pair i j one = e ∙ ap (λ (b : Chosen). moved_where L M a (bytes_of w) t b u) one ∙ where_pair L M a (bytes_of w) shared t u i j
