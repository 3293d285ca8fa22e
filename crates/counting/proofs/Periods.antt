-- Counting by periods: whole ones, and the rest. Assumes nothing.
use mathlib.Core.Path.{◌≡◌, refl, sym, ap, ap₂, ◌∙◌}
use mathlib.Core.Bool.{Bool, false, ◌&&◌, not, cond}
use mathlib.Core.Logic.{⊎_elim}
use Prim.Native.Nat.{ℕ, zero, suc, ◌+◌, ◌-◌, ◌*◌, ◌/◌, ◌%◌, ◌≤◌, ◌<◌}
use native.Mathlib.Nat.{zero-add, zero-mul, suc-mul, suc-add, div-add-mod', mod-lt, mod-eq_of_lt, add-sub_cancel_left, add-mod_right}
use native.Mathlib.Omega.{arith}
use lib.Arith.{digits_mod}
use lib.Dec.{ltb}
use borrow.Author.Tests.{le-leb, lt-leb, lt-ltb, le-ltb}
use Rattle.counting.specs.Count.{count_below, count_in}
use Rattle.counting.specs.Periodic.{owns, Periodic}
use Rattle.counting.specs.Runs.{rises}
use Rattle.counting.proofs.Cases.{lt_or_le}
use Rattle.counting.proofs.Counts.{count_zero, count_ext, count_split, count_window, count_none}

-- ---- p repeats g every s, n times
module _ (p g : ℕ → Bool) (s n : ℕ) (h : (k y : ℕ) → k < n → y < s → p (k * s + y) ≡ g y) where
  one_turn : (k y : ℕ) → k < n → y ≤ s → count_in p (k * s) y ≡ count_below g y
  unfolding count_in
  one_turn k y l m = count_ext _ _ y (λ z d. h k z l (omega arith))

  pub count_turns : (k : ℕ) → k ≤ n → count_below p (k * s) ≡ k * count_below g s
  count_turns zero l = rw (zero-mul s, zero-mul (count_below g s)) (count_zero p)
  count_turns (suc k) l =
      rw (suc-mul k s, suc-mul k (count_below g s)) (count_split p (k * s) s ∙ ap₂ (λ (a b : ℕ). a + b) (count_turns k (omega arith)) (one_turn k s l (omega arith)))

  pub count_turns_and : (k y : ℕ) → k < n → y ≤ s → count_below p (k * s + y) ≡ k * count_below g s + count_below g y
  count_turns_and k y l m = count_split p (k * s) y ∙ ap₂ (λ (a b : ℕ). a + b) (count_turns k (omega arith)) (one_turn k y l m)

-- ---- p repeats for ever
pub periodic_times : (p : ℕ → Bool) (d L : ℕ) → Periodic p d L → (k : ℕ) → Periodic p d (k * L)
periodic_times p d L per zero x h = ap p (omega (arith, zero-mul L))
periodic_times p d L per (suc k) x h = ap p (let e : x + suc k * L ≡ (x + k * L) + L = omega (arith, suc-mul k L) in e) ∙ per (x + k * L) (omega arith) ∙ periodic_times p d L per k x h

-- WHOLE PERIODS AND THE REST, counted from the window's front
pub count_by_periods : (p : ℕ → Bool) (d L a n : ℕ) → Periodic p d L → 0 < L → d ≤ a → count_in p a n ≡ n / L * count_in p a L + count_in p a (n % L)
unfolding count_in
count_by_periods p d L a n per pos h =
    ap (count_in p a) (sym (div-add-mod' n L))
    ∙ count_turns_and (λ y. p (a + y)) (λ y. p (a + y)) L (suc (n / L))
    (λ k y _ _. ap p (let e : a + (k * L + y) ≡ a + y + k * L = omega arith in e) ∙ periodic_times p d L per k (a + y) (omega arith))
    (n / L) (n % L) (omega arith) (omega (arith, mod-lt n pos))

pub rises_periodic : (p : ℕ → Bool) (d L : ℕ) → Periodic p d L → Periodic (rises p) d L
rises_periodic p d L per x h = ap₂ (λ (s t : Bool). not s && t) (per x h) (ap p (sym (suc-add x L)) ∙ per (suc x) (omega arith))

pub both_periodic : (p q : ℕ → Bool) (d L : ℕ) → Periodic p d L → Periodic q d L → Periodic (λ x. p x && q x) d L
both_periodic p q d L hp hq x h = ap₂ (λ (s t : Bool). s && t) (hp x h) (hq x h)

-- the place in a period, one further: the next, or the first of the next period
pub place_next : (y P : ℕ) → 0 < P → (y + 1) % P ≡ cond (ltb (y % P + 1) P) (y % P + 1) 0
place_next y P pos =
    let inside : y + 1 ≡ y / P * P + (y % P + 1) = omega (arith, div-add-mod' y P) in
    ⊎_elim
    (λ l. rw (lt-ltb (y % P + 1) P l) (ap (λ (z : ℕ). z % P) inside ∙ digits_mod (y / P) l))
    (λ l. rw (le-ltb (y % P + 1) P l)
    (ap (λ (z : ℕ). z % P) (let around : y + 1 ≡ suc (y / P) * P + 0 = omega (arith, mod-lt y pos, suc-mul (y / P) P) in around) ∙ digits_mod (suc (y / P)) pos))
    (lt_or_le (y % P + 1) P)

-- ---- a periodic selection
pub owns_periodic : (d P : ℕ) (q : ℕ → Bool) → Periodic (owns d P q) d P
owns_periodic d P q x h =
    let e : x + P - d ≡ x - d + P = omega arith in
    rw (le-leb d (x + P) (omega arith), le-leb d x h, e, add-mod_right) refl

pub owns_none : (d P : ℕ) (q : ℕ → Bool) (x : ℕ) → x < d → owns d P q x ≡ false
owns_none d P q x h = rw (lt-leb d x h) refl

-- from its start on it is `picks`, over and over
pub owns_at : (d P : ℕ) (q : ℕ → Bool) (y : ℕ) → owns d P q (d + y) ≡ q (y % P)
owns_at d P q y = rw (le-leb d (d + y) (omega arith), add-sub_cancel_left d y) refl

-- a period from its start on has what is picked of it
pub period_count : (d P : ℕ) (q : ℕ → Bool) → count_in (owns d P q) d P ≡ count_below q P
unfolding count_in
period_count d P q = count_ext _ _ P (λ y l. owns_at d P q y ∙ ap q (mod-eq_of_lt l))

-- THE RANK in a periodic selection: whole periods, and the rank in the last
pub rank_owns : (d P : ℕ) (q : ℕ → Bool) (x : ℕ) → 0 < P → d ≤ x → count_below (owns d P q) x ≡ (x - d) / P * count_below q P + count_below q ((x - d) % P)
unfolding count_in
rank_owns d P q x pos h =
    let turn : (k y : ℕ) → k < suc ((x - d) / P) → y < P → owns d P q (d + (k * P + y)) ≡ q y = λ k y _ l. owns_at d P q (k * P + y) ∙ ap q (digits_mod k l) in
    sym (count_window (owns d P q) d x h)
    ∙ rw (count_none (owns d P q) d (owns_none d P q)) (zero-add _)
    ∙ ap (count_below (λ y. owns d P q (d + y))) (sym (div-add-mod' (x - d) P))
    ∙ count_turns_and (λ y. owns d P q (d + y)) q P (suc ((x - d) / P)) turn ((x - d) / P) ((x - d) % P) (omega arith) (omega (arith, mod-lt (x - d) pos))
