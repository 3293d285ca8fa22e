-- WHERE A CALL MOVES BYTES: accepted sheets, an element that is there, a window of them, and buffers of the lengths asked for. Assumes nothing.
use mathlib.Core.Path.{◌≡◌, refl, sym, ◌∙◌}
use mathlib.Core.List.{List, []}
use Prim.Native.Nat.{ℕ, ◌-◌, ◌≤◌, ◌<◌}
use native.Mathlib.Omega.{arith}
use lib.ListN.{length}
use Rattle.std.specs.Prelude.{Ok}
use Rattle.counting.specs.Count.{count_in}
use Rattle.counting.specs.Gather.{in_file, gathered, scattered}
use Rattle.counting.specs.Trays.{moved, pair_moved}
use Rattle.counting.proofs.Counts.{count_window}
use Rattle.counting.proofs.Gathers.{length_gathered}
use Rattle.sheets.specs.Refusals.{first_fault}
use Rattle.sheets.specs.Sheet.{read_sheet, Reading}
use Rattle.openings.specs.Said.{done, Outcome, writing}
use Rattle.openings.specs.Refusals.{ELEMENT}
use Rattle.openings.specs.Offsets.{offsets_of, pair_tests, both_from}
use Rattle.openings.specs.Buffers.{packed_length, unless_buffers, tray_tests}
use Rattle.openings.proofs.Orders.{sheet_passed, fault_refused, fault_passed, same_value, left_held, left_written, writes}
use Rattle.openings.proofs.Opens.{WindowFine, BuffersFine, window_through, buffers_on, buffers_through}
use Rattle.openings.proofs.PairOpens.{sheets_on, elements_on}
use Rattle.openings.proofs.Faults.{element_none, trays_fine}
use Rattle.astrephon.specs.Says.{says, no_values}
use Rattle.astrephon.specs.Carries.{packed_length_of, gather_of, scatter_of, scatter_call}
use Rattle.astrephon.specs.Moves.{elements_read, move_of, pair_move_of, move_call, pair_move_call}
use Rattle.astrephon.specs.Sequences.{Takes, Forward}
use Rattle.astrephon.proofs.Contracts.{Carried, Done, Made, PackedLen, Gather, Scatter, MoveTray, MovePair}
use Rattle.astrephon.proofs.Saying.{carried_same}

-- ---- GATHER AND SCATTER check the same, so this is of both: where sheet, element, window and buffers are fine the call is done and leaves what was to be
-- written; and where it is done all of that was fine
module _ (r : Reading) (e a b file packed : ℕ) (held written : List ℕ) where
  abbrev carry : Outcome
  carry = writing (unless_buffers r e a b file packed (done [])) held written

  carry_made : (answer : Carried) (later : List ℕ) → BuffersFine r e a b file packed → (says no_values answer ≡ carry.says) × (later ≡ carry.later) → (answer ≡ Done) × (later ≡ written)
  carry_made answer later B p =
      let on = buffers_on r e a b file packed B (done []) in
      (carried_same answer Done (p.0 ∙ sym on), p.1 ∙ left_written held written on)

  carry_left : (later : List ℕ) → (done [] ≡ carry.says) × (later ≡ carry.later) → BuffersFine r e a b file packed × (later ≡ written)
  carry_left later p = ((buffers_through r e a b file packed (sym p.0)).0, p.1 ∙ left_written held written p.0)

module _ (xs : List ℕ) (e a b : ℕ) (from held later : List ℕ) (m : Made 3) where
  abbrev r : Reading
  r = read_sheet xs

  pub gather_made : (answer : Carried) → WindowFine r e a b → length from ≡ b - a → length held ≡ packed_length r e a b → Gather m xs e a b from held answer later
      → (answer ≡ Done) × (later ≡ gathered (offsets_of r e) a (b - a) (in_file a from))
  unfolding gather_of
  gather_made answer W long packed p = carry_made r e a b _ _ held _ answer later (record { window = W; file_long = long; packed_long = packed }) p

  pub scatter_made : (answer : Carried) → WindowFine r e a b → length held ≡ b - a → length from ≡ packed_length r e a b → Scatter m xs e a b from held answer later
      → (answer ≡ Done) × (later ≡ scattered (offsets_of r e) a (b - a) from held)
  unfolding scatter_of
  scatter_made answer W long packed p = carry_made r e a b _ _ held _ answer later (record { window = W; file_long = long; packed_long = packed }) p

  pub gather_left : Gather m xs e a b from held Done later → BuffersFine r e a b (length from) (length held) × (later ≡ gathered (offsets_of r e) a (b - a) (in_file a from))
  unfolding gather_of
  gather_left p = carry_left r e a b (length from) (length held) held _ later p

  pub scatter_left : Scatter m xs e a b from held Done later → BuffersFine r e a b (length held) (length from) × (later ≡ scattered (offsets_of r e) a (b - a) from held)
  unfolding scatter_of
  scatter_left p = carry_left r e a b (length held) (length from) held _ later p

-- the packed length is a count, and what is gathered is as long as scatter asks
module _ {r : Reading} {e a b : ℕ} (W : WindowFine r e a b) where
  pub window_count : packed_length r e a b ≡ count_in (offsets_of r e) a (b - a)
  window_count = omega (arith, count_window (offsets_of r e) a b W.forward)

  pub gathered_long : (f : ℕ → ℕ) → length (gathered (offsets_of r e) a (b - a) f) ≡ packed_length r e a b
  gathered_long f = length_gathered (offsets_of r e) a (b - a) f ∙ sym window_count

module _ {a b : ℕ} (W : Forward a b) where
  module _ {xs : List ℕ} (X : Takes xs a) (e : ℕ) where
    pub window_fine : e < (read_sheet xs).layout.elements → WindowFine (read_sheet xs) e a b
    window_fine there = record { element = record { fine = X.fine; there = there }; forward = W.forward; after = X.after; near = W.near }

    module _ (there : e < (read_sheet xs).layout.elements) (m : Made 3) (from held : List ℕ) (answer : Carried) (later : List ℕ) where
      pub gather_done : length from ≡ b - a → length held ≡ packed_length (read_sheet xs) e a b → Gather m xs e a b from held answer later → answer ≡ Done
      gather_done long packed p = (gather_made xs e a b from held later m answer (window_fine there) long packed p).0

      pub scatter_done : length held ≡ b - a → length from ≡ packed_length (read_sheet xs) e a b → Scatter m xs e a b from held answer later → answer ≡ Done
      scatter_done long packed p = (scatter_made xs e a b from held later m answer (window_fine there) long packed p).0

    -- an element that is not there: nothing is written
    pub scatter_absent : (read_sheet xs).layout.elements ≤ e → (packed held : List ℕ) → (scatter_call xs e a b packed held).later ≡ held
    unfolding scatter_of
    scatter_absent none packed held =
        left_held held _
        (element_none (read_sheet xs).layout.elements e none _
        ∙ sheet_passed _ 1 (read_sheet xs) X.fine)

  -- ---- moves
  module _ {xs ys : List ℕ} (X : Takes xs a) (Y : Takes ys a) (t held : List ℕ) where
    abbrev r1 : Reading
    r1 = read_sheet xs

    abbrev r2 : Reading
    r2 = read_sheet ys

    module _ (one : length t ≡ b - a) (two : length held ≡ b - a) where
      no_tray_fault : 0 ≡ first_fault (tray_tests (both_from r1 r2) a b (length t) (length held))
      no_tray_fault =
          trays_fine (both_from r1 r2) a b (length t) (length held) W.forward (omega (arith, X.after, Y.after)) W.near one two

      pub move_does : let outcome = move_call xs ys a b t held in (done [] ≡ outcome.says) × (moved (elements_read r1) (elements_read r2) a (b - a) t ≡ outcome.later)
      unfolding move_of
      move_does = writes held _ (fault_passed _ _ 0 no_tray_fault refl ∙ sheets_on r1 r2 X.fine Y.fine _) refl

      pub pair_does : (i j : ℕ) → i < r1.layout.elements → j < r2.layout.elements
          → let outcome = pair_move_call xs ys i j a b t held in (done [] ≡ outcome.says) × (pair_moved (elements_read r1) (elements_read r2) a (b - a) t i j held ≡ outcome.later)
      unfolding pair_move_of
      pair_does i j first second =
          writes held _ (fault_passed _ _ 0 no_tray_fault refl ∙ elements_on r1 r2 i j (record { fine = X.fine; there = first }) (record { fine = Y.fine; there = second }) _) refl

      module _ (m : Made 4) (answer : Carried) (later : List ℕ) where
        pub move_done : MoveTray m xs ys a b t held answer later → answer ≡ Done
        move_done p = carried_same answer Done (p.0 ∙ sym move_does.0)

        pub pair_done : (i j : ℕ) → i < r1.layout.elements → j < r2.layout.elements → MovePair m xs ys i j a b t held answer later → answer ≡ Done
        pair_done i j first second p = carried_same answer Done (p.0 ∙ sym (pair_does i j first second).0)

    -- an index that is none: nothing is written
    pub pair_absent : (i j : ℕ) → ELEMENT ≡ first_fault (pair_tests r1.layout.elements i r2.layout.elements j) → (pair_move_call xs ys i j a b t held).later ≡ held
    unfolding pair_move_of
    pair_absent i j none =
        left_held held _ (fault_refused _ _ ELEMENT none (λ z. absurd (omega arith)) ∙ sheets_on r1 r2 X.fine Y.fine _)

-- ---- PACKED LENGTH IS WHAT IS ASKED FOR: where it is answered, gather and scatter do their work with a packed buffer of that length, and a file buffer of the window's
module _ (m : Made 1) (xs : List ℕ) (e a b n : ℕ) (p : PackedLen m xs e a b (Ok n)) where
  measured : WindowFine (read_sheet xs) e a b × (packed_length (read_sheet xs) e a b ≡ n)
  unfolding packed_length_of
  measured = let W = window_through (read_sheet xs) e a b (sym p) in (W.0, same_value W.1)

  module _ (m' : Made 3) (from held : List ℕ) (answer : Carried) (later : List ℕ) where
    pub packed_len_then_gather : length from ≡ b - a → length held ≡ n → Gather m' xs e a b from held answer later → answer ≡ Done
    packed_len_then_gather long count q = (gather_made xs e a b from held later m' answer measured.0 long (count ∙ sym measured.1) q).0

    pub packed_len_then_scatter : length held ≡ b - a → length from ≡ n → Scatter m' xs e a b from held answer later → answer ≡ Done
    packed_len_then_scatter long count q = (scatter_made xs e a b from held later m' answer measured.0 long (count ∙ sym measured.1) q).0
