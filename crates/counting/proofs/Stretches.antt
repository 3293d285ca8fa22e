-- How far a test holds. Assumes nothing.
use mathlib.Core.Path.{◌≡◌, refl, sym, ap, ap₂, ◌∙◌}
use mathlib.Core.Bool.{Bool, true, false, cond}
use mathlib.Core.Logic.{⊎_elim}
use Prim.Native.Nat.{ℕ, zero, suc, ◌+◌, ◌-◌, ◌≤◌, ◌<◌}
use native.Mathlib.Nat.{add-zero, add_assoc, suc-add}
use native.Mathlib.Omega.{arith}
use Rattle.counting.specs.Count.{stretch}
use Rattle.counting.specs.Periodic.{Periodic}
use Rattle.counting.proofs.Cases.{by_test, lt_or_le, same_or_not}

-- a stretch is the one number that ends where p does, or at n
pub stretch_is : (p : ℕ → Bool) (m x n : ℕ) → m ≤ n → ((y : ℕ) → x ≤ y → y < x + m → p y ≡ true) → (m < n → p (x + m) ≡ false) → stretch p x n ≡ m
unfolding stretch
stretch_is p zero x zero l h k = refl
stretch_is p zero x (suc n) l h k = rw (ap p (sym (add-zero x)) ∙ k (omega arith))
stretch_is p (suc m) x zero l h k = absurd (omega arith)
stretch_is p (suc m) x (suc n) l h k =
    rw (h x (omega arith) (omega arith)) (ap suc (stretch_is p m (suc x) n (omega arith) (λ y u v. h y (omega arith) (omega arith)) (λ u. ap p (let z : suc x + m ≡ x + suc m = omega arith in z) ∙ k (omega arith))))

-- ---- one step
stretch_none : (p : ℕ → Bool) (x : ℕ) → stretch p x 0 ≡ 0
unfolding stretch
stretch_none p x = refl

stretch_here : (p : ℕ → Bool) (x n : ℕ) → p x ≡ true → stretch p x (suc n) ≡ suc (stretch p (suc x) n)
unfolding stretch
stretch_here p x n e = rw e

stretch_ends : (p : ℕ → Bool) (x n : ℕ) → p x ≡ false → stretch p x (suc n) ≡ 0
unfolding stretch
stretch_ends p x n e = rw e

-- ---- what a stretch is: at most n, all of it passes, and past it p stops
pub stretch_le : (p : ℕ → Bool) (x n : ℕ) → stretch p x n ≤ n
stretch_le p x zero = omega (arith, stretch_none p x)
stretch_le p x (suc n) = by_test (p x)
    (λ e. omega (arith, stretch_here p x n e, stretch_le p (suc x) n))
    (λ e. omega (arith, stretch_ends p x n e))

pub stretch_all : (p : ℕ → Bool) (x n y : ℕ) → x ≤ y → y < x + stretch p x n → p y ≡ true
stretch_all p x zero y u v = absurd (omega (arith, stretch_none p x))
stretch_all p x (suc n) y u v = by_test (p x)
    (λ e. ⊎_elim (λ d. ap p d ∙ e) (λ d. stretch_all p (suc x) n y (omega arith) (omega (arith, stretch_here p x n e))) (same_or_not y x))
    (λ e. absurd (omega (arith, stretch_ends p x n e)))

pub stretch_stop : (p : ℕ → Bool) (x n : ℕ) → stretch p x n < n → p (x + stretch p x n) ≡ false
stretch_stop p x zero h = absurd (omega arith)
stretch_stop p x (suc n) h = by_test (p x)
    (λ e. rw (stretch_here p x n e) (ap p (let z : x + suc (stretch p (suc x) n) ≡ suc x + stretch p (suc x) n = omega arith in z) ∙ stretch_stop p (suc x) n (omega (arith, stretch_here p x n e))))
    (λ e. rw (stretch_ends p x n e, add-zero x) e)

-- one that begins has a number
pub stretch_some : (p : ℕ → Bool) (x n : ℕ) → p x ≡ true → 0 < n → 0 < stretch p x n
stretch_some p x zero e h = absurd (omega arith)
stretch_some p x (suc n) e h = omega (arith, stretch_here p x n e)

-- in the window from x to e it ends inside
pub stretch_within : (p : ℕ → Bool) (x y e : ℕ) → x ≤ e → y ≡ x + stretch p x (e - x) → (x ≤ y) × (y ≤ e)
stretch_within p x y e h is = (omega arith, omega (arith, stretch_le p x (e - x)))

-- ---- a stretch with a border in it: on from there where the border is reached, and no further where it is not
pub stretch_on : (p : ℕ → Bool) (x m n : ℕ) → stretch p x m ≡ m → stretch p x (m + n) ≡ m + stretch p (x + m) n
stretch_on p x m n h =
    stretch_is p (m + stretch p (x + m) n) x (m + n) (omega (arith, stretch_le p (x + m) n))
    (λ y u v. ⊎_elim (λ l. stretch_all p x m y u (omega arith)) (λ l. stretch_all p (x + m) n y l (omega arith)) (lt_or_le y (x + m)))
    (λ l. ap p (sym (add_assoc x m (stretch p (x + m) n))) ∙ stretch_stop p (x + m) n (omega arith))

pub stretch_short : (p : ℕ → Bool) (x m n : ℕ) → stretch p x m < m → stretch p x (m + n) ≡ stretch p x m
stretch_short p x m n h = stretch_is p (stretch p x m) x (m + n) (omega arith) (stretch_all p x m) (λ _. stretch_stop p x m h)

-- a test that repeats has the same stretches a period later
pub stretch_period : (p : ℕ → Bool) (d L : ℕ) → Periodic p d L → (x n : ℕ) → d ≤ x → stretch p (x + L) n ≡ stretch p x n
unfolding stretch
stretch_period p d L per x zero h = refl
stretch_period p d L per x (suc n) h =
    ap₂ (λ (t : Bool) (m : ℕ). cond t (suc m) 0) (per x h) (ap (λ (y : ℕ). stretch p y n) (sym (suc-add x L)) ∙ stretch_period p d L per (suc x) n (omega arith))
