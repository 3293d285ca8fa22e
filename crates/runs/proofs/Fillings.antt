-- A list that is filled run by run: one run more, and all of them. Assumes nothing.
use mathlib.Core.Path.{◌≡◌, refl, sym, ap, ap₂, ◌∙◌}
use mathlib.Core.Bool.{Bool}
use mathlib.Core.List.{List, [], ◌∷◌, ◌++◌, append_assoc}
use mathlib.Core.Logic.{⊎_elim}
use Prim.Native.Nat.{ℕ, suc, ◌+◌, ◌-◌, ◌*◌, ◌≤◌, ◌<◌}
use native.Mathlib.Nat.{zero-add}
use native.Mathlib.Omega.{arith}
use lib.ListN.{length, take, drop, length-append, length-take, length-drop}
use borrow.Rule.Slice.PartMut.{mid_of, post_of, put_mid, same_len_mid, Post-is}
use lib.Seq.{drop-drop, take-append_seam, drop-append-add}
use borrow.Author.Tests.{lt-ltb, le-ltb, le-leb, lt-leb}
use Rattle.counting.specs.Runs.{Run}
use Rattle.counting.proofs.Cases.{lt_or_le}
use Rattle.runs.specs.Listing.{shared_runs, slots_of, list_of, capacity, list_after, Listed, handed, Filling, filled, with_run, added}

-- ---- one run more
module _ (slots : List ℕ) (n : ℕ) where
  pub none_written : (four : List ℕ) → capacity slots ≤ n → slots ≡ with_run slots n four
  unfolding with_run
  none_written four h = rw (le-ltb n (capacity slots) h) refl

  -- four slots, written as one part of the list
  pub four_written : (four : List ℕ) (written : List ℕ) → written ≡ four → n < capacity slots → put_mid (4 * n) (4 * n + 4 - 4 * n) slots written ≡ with_run slots n four
  unfolding with_run
  four_written four written is h =
      rw (lt-ltb n (capacity slots) h, is)
      (sym (append_assoc (take (4 * n) slots) four (post_of (4 * n) (4 * n + 4 - 4 * n) slots))
      ∙ ap (λ (after : List ℕ). take (4 * n) slots ++ four ++ after) (Post-is (4 * n) (4 * n + 4) slots (omega arith)))

  pub length_with_run : (a b c d : ℕ) → length (with_run slots n (a ∷ b ∷ c ∷ d ∷ [])) ≡ length slots
  length_with_run a b c d =
      let four = a ∷ b ∷ c ∷ d ∷ [] in
      ⊎_elim
      (λ h. ap length (sym (four_written four four refl h)) ∙ same_len_mid (4 * n) (4 * n + 4 - 4 * n) slots four (mid_long h))
      (λ h. ap length (sym (none_written four h)))
      (lt_or_le n (capacity slots))
    where
      mid_long : n < capacity slots → 4 ≡ length (mid_of (4 * n) (4 * n + 4 - 4 * n) slots)
      mid_long h = simp (length-take, length-drop) (omega arith)

-- ---- all of them
module _ (p q : ℕ → Bool) where
  fold_number : (rs : List Run) (t : Filling) → (handed (added p q) t rs).runs ≡ t.runs + length rs
  unfolding handed added
  fold_number [] t = omega arith
  fold_number (r ∷ rs) t = fold_number rs (added p q t r) ∙ omega arith

  slots_of_lem : (n : ℕ) (rs : List Run) {l m : List ℕ} → l ≡ m → (handed (added p q) (filled l n) rs).slots ≡ (handed (added p q) (filled m n) rs).slots
  slots_of_lem n rs e = ap (λ (l : List ℕ). (handed (added p q) (filled l n) rs).slots) e

  -- a list that holds no more run stays
  fold_kept : (rs : List Run) (slots : List ℕ) (n : ℕ) → capacity slots ≤ n → (handed (added p q) (filled slots n) rs).slots ≡ slots
  unfolding handed added
  fold_kept [] slots n h = refl
  fold_kept (r ∷ rs) slots n h = slots_of_lem (n + 1) rs (sym (none_written slots n (slots_of p q r) h)) ∙ fold_kept rs slots (n + 1) (omega arith)

  -- one that holds them has their slots behind those of the n runs before
  one_behind : (r : Run) (front rest : List ℕ) (n : ℕ) → length front ≡ 4 * n → 4 ≤ length rest
      → with_run (front ++ rest) n (slots_of p q r) ≡ (front ++ slots_of p q r) ++ drop 4 rest
  unfolding with_run
  one_behind r front rest n e h =
      let room : n < capacity (front ++ rest) = omega (arith, length-append front rest) in
      rw (lt-ltb n (capacity (front ++ rest)) room, ← e)
      (ap₂ (λ (before after : List ℕ). before ++ slots_of p q r ++ after) (take-append_seam front rest) (drop-append-add front rest 4))

  fold_behind : (rs : List Run) (front rest : List ℕ) (n : ℕ) → length front ≡ 4 * n → 4 * length rs ≤ length rest
      → (handed (added p q) (filled (front ++ rest) n) rs).slots ≡ front ++ (list_of p q rs ++ drop (4 * length rs) rest)
  unfolding handed added list_of
  fold_behind [] front rest n e h = refl
  fold_behind (r ∷ rs) front rest n e h =
      let four = slots_of p q r in
      let later = list_of p q rs in
      let after : drop (4 * length rs) (drop 4 rest) ≡ drop (4 * suc (length rs)) rest =
      drop-drop (4 * length rs) 4 rest ∙ ap (λ (k : ℕ). drop k rest) (let z : 4 + 4 * length rs ≡ 4 * suc (length rs) = omega arith in z) in
      slots_of_lem (n + 1) rs (one_behind r front rest n e (omega arith))
      ∙ fold_behind rs (front ++ four) (drop 4 rest) (n + 1) (omega (arith, length-append front four)) (omega (arith, length-drop 4 rest))
      ∙ rw after (append_assoc front four (later ++ drop (4 * suc (length rs)) rest)
      ∙ ap (λ (l : List ℕ). front ++ l) (sym (append_assoc four later (drop (4 * suc (length rs)) rest))))

  module _ (rs : List Run) (new : List ℕ) (runs : ℕ) where
    -- A LIST THAT HOLDS NONE only counts
    pub count_by_fold : filled new runs ≡ handed (added p q) (filled [] 0) rs → (runs ≡ length rs) × (new ≡ [])
    count_by_fold e = (
      ap (λ (t : Filling). t.runs) e ∙ fold_number rs (filled [] 0) ∙ zero-add (length rs),
      ap (λ (t : Filling). t.slots) e ∙ fold_kept rs [] 0 (omega arith),
    )

    -- A LIST THAT HOLDS ALL has their slots, and then the old ones
    pub list_by_fold : (old : List ℕ) → length rs ≤ capacity old → filled new runs ≡ handed (added p q) (filled old 0) rs
        → (runs ≡ length rs) × (new ≡ list_of p q rs ++ drop (4 * length rs) old)
    list_by_fold old h e = (
      ap (λ (t : Filling). t.runs) e ∙ fold_number rs (filled old 0) ∙ zero-add (length rs),
      ap (λ (t : Filling). t.slots) e ∙ fold_behind rs [] old 0 refl (omega arith),
    )

-- ---- `list_if_held`: all are counted first, and listed where the list holds them
module _ (p q : ℕ → Bool) (a b : ℕ) (old none : List ℕ) (runs : ℕ)
    (counted : filled none runs ≡ handed (added p q) (filled [] 0) (shared_runs p q a b)) where
  pub listed_all : runs ≤ capacity (none ++ old) → (new : List ℕ) (again : ℕ)
      → filled new again ≡ handed (added p q) (filled (none ++ old) 0) (shared_runs p q a b) → Listed p q a b old new runs
  unfolding list_after
  listed_all h new again e =
      let shared = shared_runs p q a b in
      let c = count_by_fold p q shared none runs counted in
      let held : length shared ≤ capacity old = omega (arith, c.0, rw c.1 at h) in
      record { number = c.0; list = rw (le-leb (length shared) (capacity old) held) (list_by_fold p q shared new again old held (rw c.1 at e)).1 }

  pub listed_none : capacity (none ++ old) < runs → Listed p q a b old (none ++ old) runs
  unfolding list_after
  listed_none h =
      let shared = shared_runs p q a b in
      let c = count_by_fold p q shared none runs counted in
      let more : capacity old < length shared = omega (arith, c.0, rw c.1 at h) in
      record { number = c.0; list = rw (lt-leb (length shared) (capacity old) more, c.1) refl }
