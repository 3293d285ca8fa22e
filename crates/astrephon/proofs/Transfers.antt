-- The calls between a file buffer and one element's packed bytes: an element was opened for a window, or for a window and two buffers, and then its
-- bytes are counted or carried. Assumes nothing.
use mathlib.Core.Path.{◌≡◌, sym, ap, ◌∙◌}
use mathlib.Core.Bool.{Bool}
use mathlib.Core.List.{List, [], ◌∷◌}
use Prim.Native.Nat.{ℕ, ◌-◌}
use native.Mathlib.Omega.{arith}
use lib.ListN.{length}
use Rattle.counting.specs.Count.{count_below}
use Rattle.counting.specs.Gather.{in_file, gathered, scattered}
use Rattle.counting.proofs.Counts.{count_window}
use Rattle.families.specs.declared.Family.{Family}
use Rattle.sheets.specs.Sheet.{read_sheet}
use Rattle.maps.specs.declared.Selection.{Selection}
use Rattle.maps.specs.declared.window.Window.{Window}
use Rattle.maps.specs.Windows.{WindowOk}
use Rattle.maps.specs.Selected.{belongs}
use Rattle.openings.specs.declared.Opening.{Opening}
use Rattle.openings.specs.Said.{done}
use Rattle.openings.specs.Offsets.{offsets_of, unless_window}
use Rattle.openings.specs.Buffers.{packed_length, unless_buffers}
use Rattle.openings.specs.Openings.{Passes, Chosen}
use Rattle.openings.proofs.Orders.{left_written}
use Rattle.openings.proofs.Opens.{lent, Windowed, windowed, count_is, buffered}
use Rattle.runs.specs.Walking.{SideOk}
use Rattle.moves.specs.Walks.{Buffers}
use Rattle.astrephon.specs.Carries.{packed_length_of, gather_of, scatter_of}
use Rattle.astrephon.proofs.Asks.{side_ok}

-- ---- `packed_len`
pub measured_done : (xs : List ℕ) (e a b : ℕ) {o : Opening} → Passes (unless_window (read_sheet xs) e a b) → Chosen (read_sheet xs) e o
    → (c : ℕ) → c ≡ count_below (belongs o.selection o.layout.family) b - count_below (belongs o.selection o.layout.family) a → done (c ∷ []) ≡ packed_length_of (read_sheet xs) e a b
unfolding packed_length_of
measured_done xs e a b P C c counted = ap (λ (n : ℕ). done (n ∷ [])) (count_is (windowed xs e a b P C) c counted) ∙ P _

-- ---- the subfile of what was opened with buffers
module _ (xs : List ℕ) (e a b file packed : ℕ) {o : Opening} (P : Passes (unless_buffers (read_sheet xs) e a b file packed)) (C : Chosen (read_sheet xs) e o) where
  carried : Windowed (read_sheet xs) e a b o × (file ≡ b - a) × (packed ≡ packed_length (read_sheet xs) e a b)
  carried = buffered xs e a b file packed P C

  -- a window that the code takes
  pub carry_window : WindowOk a b
  carry_window = record { ordered = carried.0.forward; near = carried.0.near }

  module _ (s : Selection) (families : List Family) (p : s ≡ o.selection) (q : families ≡ o.layout.family) where
    subfile_is : belongs s families ≡ offsets_of (read_sheet xs) e
    subfile_is = (lent o p q carried.0.opened).is

    -- what the engines ask
    pub carry_side : SideOk s families 65536 a
    carry_side = side_ok (lent o p q carried.0.opened) a (omega (arith, carried.0.after, ap (λ (t : Selection). t.from) p))

    pub carry_buffers : (w : Window) → w.start.0 ≡ a → w.end.0 ≡ b → Buffers (belongs s families) w file packed
    carry_buffers w start end =
        let c = count_window (offsets_of (read_sheet xs) e) a b carried.0.forward in
        record { file = rw (start, end) carried.1; packed = rw (start, end, subfile_is) (omega (arith, carried.2, c)) }

-- ---- what `gather` and `scatter` leave
module _ (xs : List ℕ) (e a b : ℕ) (from held later : List ℕ) {o : Opening} (C : Chosen (read_sheet xs) e o) (s : Selection) (families : List Family) (p : s ≡ o.selection) (q : families ≡ o.layout.family) where
  pub gathered_done : Passes (unless_buffers (read_sheet xs) e a b (length from) (length held)) → later ≡ gathered (belongs s families) a (b - a) (in_file a from)
      → later ≡ (gather_of (read_sheet xs) e a b from held).later
  unfolding gather_of
  gathered_done P is =
      let selected = subfile_is xs e a b (length from) (length held) P C s families p q in
      is ∙ ap (λ (t : ℕ → Bool). gathered t a (b - a) (in_file a from)) selected ∙ sym (left_written held _ (P (done [])))

  pub scattered_done : Passes (unless_buffers (read_sheet xs) e a b (length held) (length from)) → later ≡ scattered (belongs s families) a (b - a) from held
      → later ≡ (scatter_of (read_sheet xs) e a b from held).later
  unfolding scatter_of
  scattered_done P is =
      let selected = subfile_is xs e a b (length held) (length from) P C s families p q in
      is ∙ ap (λ (t : ℕ → Bool). scattered t a (b - a) from held) selected ∙ sym (left_written held _ (P (done [])))
