-- The calls between trays, case by case: both sheets were opened, then the indexes of a pair, the window and the trays are checked. Assumes nothing.
use mathlib.Core.Path.{◌≡◌, refl, sym, ap, ap₂, ◌∙◌}
use mathlib.Core.List.{List, []}
use Prim.Native.Nat.{ℕ, ◌-◌, ◌≤◌}
use native.Mathlib.Omega.{arith}
use lib.ListN.{length}
use Rattle.counting.specs.Elements.{Elements}
use Rattle.counting.specs.Trays.{moved, pair_moved}
use Rattle.sheets.specs.Sheet.{read_sheet, Reading}
use Rattle.maps.specs.declared.window.Window.{Window}
use Rattle.maps.specs.Windows.{WindowOk}
use Rattle.maps.specs.Selected.{elements_of}
use Rattle.openings.specs.declared.Refusal.{Refusal}
use Rattle.openings.specs.declared.Sheets.{Sheets}
use Rattle.openings.specs.Said.{Said, done}
use Rattle.openings.specs.Refusals.{unless_sheets, unless_fault}
use Rattle.openings.specs.Offsets.{LIMIT, offsets_of, pair_tests, both_from}
use Rattle.openings.specs.Buffers.{unless_trays}
use Rattle.openings.specs.Openings.{Passes, Refuses, accepted_as}
use Rattle.openings.proofs.Orders.{left_held, left_written}
use Rattle.openings.proofs.Verdicts.{passes_none}
use Rattle.openings.proofs.Faults.{trays_known}
use Rattle.openings.proofs.Opens.{accepted_shares}
use Rattle.openings.proofs.PairOpens.{both_accepted}
use Rattle.trays.specs.Parts.{Lengths, Starts}
use Rattle.astrephon.specs.Moves.{elements_read, move_of, pair_move_of}

elements_are : (r : Reading) → elements_of r.layout r.size ≡ elements_read r
unfolding elements_of offsets_of
elements_are r = refl

-- what the engine asks of an accepted sheet
starts : (xs : List ℕ) (r : Reading) → r ≡ read_sheet xs → (read_sheet xs).number ≡ 0 → (w : Window) → r.layout.displacement ≤ w.start.0 → Starts r.layout r.size w
starts xs r read fine w after = record { pattern = accepted_shares xs r read fine; after = after }

-- ---- as the code has them: o is what was opened
module _ (xs ys : List ℕ) {o : Sheets} (S : Passes (unless_sheets (read_sheet xs) (read_sheet ys)) × ((accepted_as o.one ≡ read_sheet xs) × (accepted_as o.two ≡ read_sheet ys))) (a b : ℕ) (t held : List ℕ) where
  abbrev r1 : Reading
  r1 = read_sheet xs

  abbrev r2 : Reading
  r2 = read_sheet ys

  -- the engine's elements are the sheets'
  one_is : elements_of o.one.layout o.one.size ≡ elements_read r1
  one_is = elements_are (accepted_as o.one) ∙ ap elements_read S.1.0

  two_is : elements_of o.two.layout o.two.size ≡ elements_read r2
  two_is = elements_are (accepted_as o.two) ∙ ap elements_read S.1.1

  abbrev trays : (one two : Reading) → Said → Said
  trays one two = unless_trays one two a b (length t) (length held)

  trays_are : (next : Said) → trays (accepted_as o.one) (accepted_as o.two) next ≡ trays r1 r2 next
  trays_are next = ap₂ (λ (one two : Reading). trays one two next) S.1.0 S.1.1

  -- ---- the window or a tray is refused: nothing is written
  pub moved_refused : (f : Refusal) → Refuses (trays (accepted_as o.one) (accepted_as o.two)) f → held ≡ (move_of r1 r2 a b t held).later
  unfolding move_of
  moved_refused f R = sym (left_held held _ (R _ ∙ trays_are _ ∙ S.0 _))

  -- ---- they are fine
  module _ (T : Passes (trays (accepted_as o.one) (accepted_as o.two))) where
    fine : (both_from (accepted_as o.one) (accepted_as o.two) ≤ a) × (a ≤ b) × (b ≤ LIMIT) × (length t ≡ b - a) × (length held ≡ b - a)
    fine = let K = trays_known (both_from (accepted_as o.one) (accepted_as o.two)) a b (length t) (length held) (passes_none _ T) in (K.1, K.0, K.2, K.3, K.4)

    -- a window that the engine takes, and what it asks
    pub move_window : WindowOk a b
    move_window = record { ordered = fine.1; near = fine.2 }

    pub first_starts : (w : Window) → w.start.0 ≡ a → Starts o.one.layout o.one.size w
    first_starts w start = starts xs (accepted_as o.one) S.1.0 (both_accepted r1 r2 S.0).0 w (omega (arith, fine.0))

    pub second_starts : (w : Window) → w.start.0 ≡ a → Starts o.two.layout o.two.size w
    second_starts w start = starts ys (accepted_as o.two) S.1.1 (both_accepted r1 r2 S.0).1 w (omega (arith, fine.0))

    pub move_asks : (w : Window) → w.start.0 ≡ a → w.end.0 ≡ b → Starts o.one.layout o.one.size w × (Starts o.two.layout o.two.size w × Lengths w (length t) (length held))
    move_asks w start end = (first_starts w start, (second_starts w start, record { first = rw (start, end) fine.3; second = rw (start, end) fine.4 }))

    pub moved_done : (later : List ℕ) → later ≡ moved (elements_of o.one.layout o.one.size) (elements_of o.two.layout o.two.size) a (b - a) t → later ≡ (move_of r1 r2 a b t held).later
    unfolding move_of
    moved_done later q =
        q ∙ ap₂ (λ (L M : Elements). moved L M a (b - a) t) one_is two_is ∙ sym (left_written held _ (T (done []) ∙ trays_are _ ∙ S.0 _))

  -- ---- the indexes of a pair, after both sheets were opened
  module _ (i j : ℕ) where
    abbrev indexes : (one two : Reading) → Said → Said
    indexes one two = unless_fault (pair_tests one.layout.elements i two.layout.elements j)

    indexes_are : (next : Said) → indexes (accepted_as o.one) (accepted_as o.two) next ≡ indexes r1 r2 next
    indexes_are next = ap₂ (λ (one two : Reading). indexes one two next) S.1.0 S.1.1

    pub pair_absent : (f : Refusal) → Refuses (indexes (accepted_as o.one) (accepted_as o.two)) f → held ≡ (pair_move_of r1 r2 i j a b t held).later
    unfolding pair_move_of
    pair_absent f R = sym (left_held held _ (R _ ∙ indexes_are _ ∙ S.0 _))

    module _ (I : Passes (indexes (accepted_as o.one) (accepted_as o.two))) where
      pub pair_refused : (f : Refusal) → Refuses (trays (accepted_as o.one) (accepted_as o.two)) f → held ≡ (pair_move_of r1 r2 i j a b t held).later
      unfolding pair_move_of
      pair_refused f R = sym (left_held held _ (R _ ∙ trays_are _ ∙ I _ ∙ indexes_are _ ∙ S.0 _))

      pub pair_done : Passes (trays (accepted_as o.one) (accepted_as o.two)) → (later : List ℕ) → later ≡ pair_moved (elements_of o.one.layout o.one.size) (elements_of o.two.layout o.two.size) a (b - a) t i j held
          → later ≡ (pair_move_of r1 r2 i j a b t held).later
      unfolding pair_move_of
      pair_done T later q =
          q
          ∙ ap₂ (λ (L M : Elements). pair_moved L M a (b - a) t i j held) one_is two_is
          ∙ sym (left_written held _ (T (done []) ∙ trays_are _ ∙ I _ ∙ indexes_are _ ∙ S.0 _))
