-- How many numbers the runs have together, and how many runs there are. Assumes nothing.
use mathlib.Core.Path.{◌≡◌, refl, sym, ap, ◌∙◌}
use mathlib.Core.Bool.{Bool, true, false, cond}
use mathlib.Core.List.{List, [], ◌∷◌}
use Prim.Native.Nat.{ℕ, zero, suc, ◌+◌, ◌*◌, ◌/◌, ◌%◌, ◌≤◌, ◌<◌}
use native.Mathlib.Nat.{add_assoc}
use native.Mathlib.Omega.{arith}
use lib.Dec.{eqb}
use lib.ListN.{length}
use Rattle.counting.specs.Count.{bit, count_in}
use Rattle.counting.specs.Periodic.{Periodic}
use Rattle.counting.specs.Runs.{Run, glue, runs_of, total, rises}
use Rattle.counting.proofs.Cases.{by_test}
use Rattle.counting.proofs.Counts.{count_in_none, count_in_front}
use Rattle.counting.proofs.Periods.{count_by_periods, rises_periodic}
use Rattle.counting.proofs.Runs.{glue_cases, glue_glue, glue_far, runs_spaced}

-- ---- together they have as many numbers as pass
total_glue : (s m : ℕ) (rs : List Run) → total (glue s m rs) ≡ m + total rs
unfolding total glue
total_glue s m [] = refl
total_glue s m (q ∷ rs) = glue_cases s m q rs (λ l. total l ≡ m + total (q ∷ rs)) (λ d. add_assoc m q.1 (total rs)) (λ d. refl)

pub runs_total : (p : ℕ → Bool) (a n : ℕ) → total (runs_of p a n) ≡ count_in p a n
unfolding runs_of total
runs_total p a zero = sym (count_in_none p a)
runs_total p a (suc n) = rw (count_in_front p a n) (by_test (p a)
    (λ e. rw e (omega (arith, total_glue a 1 (runs_of p (suc a) n), runs_total p (suc a) n)))
    (λ e. rw e (omega (arith, runs_total p (suc a) n))))

-- ---- how many: a run in front of later runs is one more, but where it touches the first of them
length_glue : (s m t k : ℕ) (rs : List Run) → s + m ≡ t + k → length (glue s m rs) ≡ length (glue t k rs)
unfolding glue
length_glue s m t k [] e = refl
length_glue s m t k (q ∷ rs) e = rw e (either (eqb (t + k) q.0))
  where
    either : (b : Bool) → length (cond b ((s, m + q.1) ∷ rs) ((s, m) ∷ (q ∷ rs))) ≡ length (cond b ((t, k + q.1) ∷ rs) ((t, k) ∷ (q ∷ rs)))
    either true = refl
    either false = refl

-- THE NUMBER OF RUNS: one where the window starts inside, and one for each place where p begins
pub runs_number : (p : ℕ → Bool) (a n : ℕ) → length (runs_of p a (suc n)) ≡ bit (p a) + count_in (rises p) a n
unfolding runs_of glue
runs_number p a zero = rw (count_in_none (rises p) a) (by_test (p a) (λ e. rw e refl) (λ e. rw e refl))
runs_number p a (suc n) =
    let rs = runs_of p (suc (suc a)) n in
    let ih : length (runs_of p (suc a) (suc n)) ≡ bit (p (suc a)) + count_in (rises p) (suc a) n = runs_number p (suc a) n in
    rw (count_in_front (rises p) a n) (by_test (p a)
    (λ e. by_test (p (suc a))
    (λ f. let g : length (glue (suc a) 1 rs) ≡ 1 + count_in (rises p) (suc a) n = rw f at ih in
    rw (e, f) (ap length (glue_glue a 1 (suc a) 1 rs (omega arith)) ∙ length_glue a (1 + 1) (suc a) 1 rs (omega arith) ∙ omega (arith, g)))
    (λ f. let g : length rs ≡ 0 + count_in (rises p) (suc a) n = rw f at ih in
    rw (e, f) (ap length (glue_far a 1 (suc (suc a)) (suc (suc a) + n) rs (omega arith) (runs_spaced p (suc (suc a)) n)) ∙ omega (arith, g))))
    (λ e. rw e (omega (arith, ih))))

-- and by periods: whole ones, and the rest
pub runs_by_periods : (p : ℕ → Bool) (d L a n : ℕ) → Periodic p d L → 0 < L → d ≤ a
    → length (runs_of p a (suc n)) ≡ bit (p a) + (n / L * count_in (rises p) a L + count_in (rises p) a (n % L))
runs_by_periods p d L a n per pos h = runs_number p a n ∙ ap (λ (z : ℕ). bit (p a) + z) (count_by_periods (rises p) d L a n (rises_periodic p d L per) pos h)
