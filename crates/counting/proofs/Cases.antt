-- Two numbers compared, and a test by its two cases. Assumes nothing.
use mathlib.Core.Path.{◌≡◌, refl}
use mathlib.Core.Bool.{Bool, true, false, cond}
use mathlib.Core.Logic.{◌⊎◌, inl, inr, ⊎_elim, ◌↔◌}
use Prim.Native.Nat.{ℕ, ◌≤◌, ◌<◌}
use native.Mathlib.Omega.{arith}
use lib.Dec.{ltb, eqb}
use borrow.Author.Tests.{ltb-true, ltb-false, eqb-true, eqb-false}

pub by_test : {C : Type 0} (t : Bool) → (t ≡ true → C) → (t ≡ false → C) → C
by_test true f g = f refl
by_test false f g = g refl

pub lt_or_le : (a b : ℕ) → (a < b) ⊎ (b ≤ a)
lt_or_le a b = by_test (ltb a b) (λ e. inl (ltb-true a b e)) (λ e. inr (ltb-false a b e))

-- two comparisons that hold together fail together
pub above : (a b c d : ℕ) → ((a ≤ b) ↔ (c ≤ d)) → (b < a) ↔ (d < c)
above a b c d h = (turned a b c d h.1, turned c d a b h.0)
  where
    turned : (a b c d : ℕ) → (c ≤ d → a ≤ b) → b < a → d < c
    turned a b c d h l = ⊎_elim (λ g. g) (λ g. absurd (omega (arith, h g))) (lt_or_le d c)

pub same_or_not : (a b : ℕ) → (a ≡ b) ⊎ (a ≡ b → ⊥)
same_or_not a b = by_test (eqb a b) (λ e. inl (eqb-true a b e)) (λ e. inr (eqb-false a b e))

-- two choices that are the same
pub cond_same : {A : Type 0} (t : Bool) {u v : A} → v ≡ u → cond t u v ≡ u
cond_same true e = refl
cond_same false e = e
