-- What the answer to `shared_runs` says: how many runs there are and what the list holds, and when there is no room; and what the runs are. Assumes nothing.
use mathlib.Core.Path.{◌≡◌, refl, sym, ◌∙◌}
use mathlib.Core.Bool.{Bool}
use mathlib.Core.List.{List, [], ◌∷◌}
use Prim.Native.Nat.{ℕ, ◌+◌, ◌-◌, ◌≤◌, ◌<◌}
use native.Mathlib.Omega.{arith}
use lib.Dec.{leb}
use lib.ListN.{length}
use borrow.Author.Tests.{leb-true}
use Rattle.std.specs.Prelude.{Ok, Err}
use Rattle.counting.specs.Count.{count_in}
use Rattle.counting.specs.Runs.{total, covers, Spaced, Maximal}
use Rattle.counting.proofs.Cases.{by_test}
use Rattle.counting.proofs.Runs.{runs_spaced, runs_cover, runs_maximal}
use Rattle.counting.proofs.RunCounts.{runs_total}
use Rattle.sheets.specs.Sheet.{read_sheet, Reading}
use Rattle.openings.specs.Said.{Said, done}
use Rattle.openings.specs.declared.Refusal.TheVariants.{Room}
use Rattle.openings.specs.Offsets.{LIMIT, offsets_of, window_tests, both_from}
use Rattle.openings.proofs.Orders.{never_both, fault_passed, fault_through, same_value, left_held, left_written}
use Rattle.openings.proofs.Faults.{range_fine}
use Rattle.openings.proofs.PairOpens.{elements_on, elements_through}
use Rattle.runs.specs.Listing.{both, shared_runs, list_with, capacity}
use Rattle.astrephon.specs.Shares.{runs_of_pair, unless_room, shared_runs_of}
use Rattle.astrephon.specs.Sequences.{Takes, Forward}
use Rattle.astrephon.proofs.Contracts as contracts
use Rattle.astrephon.proofs.Saying.{counted_same}
use Rattle.astrephon.proofs.Listings.{room_refused}

-- ---- WHAT THE RUNS ARE, of any two selections p and q: their offsets are in both, inside the window none can be made longer, they ascend and never touch, and
-- they hold every shared offset; so their lengths sum to the count of those
module _ (p q : ℕ → Bool) (a b : ℕ) (forward : a ≤ b) where
  ends : a + (b - a) ≡ b
  ends = omega arith

  pub shared_maximal : Maximal (both p q) a b (shared_runs p q a b)
  shared_maximal = rw ends at (runs_maximal (both p q) a (b - a))

  pub shared_apart : Spaced 1 a b (shared_runs p q a b)
  shared_apart = rw ends at (runs_spaced (both p q) a (b - a))

  pub shared_cover : (x : ℕ) → a ≤ x → x < b → covers (shared_runs p q a b) x ≡ both p q x
  shared_cover x h l = runs_cover (both p q) a (b - a) x h (omega arith)

  pub shared_lengths : total (shared_runs p q a b) ≡ count_in (both p q) a (b - a)
  shared_lengths = runs_total (both p q) a (b - a)

-- ---- what the list's room says
room_through : (n : ℕ) (held : List ℕ) {next : Said} {values : List ℕ} → unless_room n held next ≡ done values → (n ≤ capacity held) × (next ≡ done values)
unfolding unless_room
room_through n held q = by_test (leb n (capacity held)) (λ fits. (leb-true n (capacity held) fits, rw fits at q)) (λ over. absurd (never_both (rw over at q)))

module _ (m : contracts.Made 3) (xs ys : List ℕ) (i j a b : ℕ) (held later : List ℕ) where
  abbrev r1 : Reading
  r1 = read_sheet xs

  abbrev r2 : Reading
  r2 = read_sheet ys

  -- THE ANSWER is the number of runs, and the list holds them
  pub shared_says : (n : ℕ) → contracts.SharedRuns m xs ys i j a b held (Ok n) later
      → let runs = runs_of_pair r1 r2 i j a b in (n ≡ length runs) × (n ≤ capacity held) × (later ≡ list_with (offsets_of r1 i) (offsets_of r2 j) runs held)
  unfolding shared_runs_of
  shared_says n p =
      let runs = runs_of_pair r1 r2 i j a b in
      let there = elements_through r1 r2 i j (sym p.0) in
      let window = fault_through (window_tests (both_from r1 r2) a b) there.2 in
      let room = room_through (length runs) held window.1 in
      let count : length runs ≡ n = same_value room.1 in
      (sym count, omega (arith, room.0), p.1 ∙ left_written held (list_with (offsets_of r1 i) (offsets_of r2 j) runs held) p.0)

  -- THE ROOM that is wanted where the list is too short: as many runs as there are, and the list stays
  pub shared_room_says : Takes xs a → Takes ys a → Forward a b → i < r1.layout.elements → j < r2.layout.elements → capacity held < length (runs_of_pair r1 r2 i j a b)
      → (r : contracts.Answer ℕ) → contracts.SharedRuns m xs ys i j a b held r later → (r ≡ Err (Room (length (runs_of_pair r1 r2 i j a b)))) × (later ≡ held)
  unfolding shared_runs_of
  shared_room_says X Y W first second short r p =
      let n = length (runs_of_pair r1 r2 i j a b) in
      let refuses =
      room_refused n held (done (n ∷ [])) short
      ∙ fault_passed _ (window_tests (both_from r1 r2) a b) 0 (range_fine LIMIT _ a b W.forward (omega (arith, X.after, Y.after)) W.near) refl
      ∙ elements_on r1 r2 i j (record { fine = X.fine; there = first }) (record { fine = Y.fine; there = second }) _ in
      (counted_same r (Err (Room n)) (p.0 ∙ sym refuses), p.1 ∙ left_held held _ refuses)
