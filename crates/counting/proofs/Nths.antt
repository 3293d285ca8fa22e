-- The number of rank y: there is one exactly when enough pass, and one only; and where others stand to it, by their ranks. Assumes nothing.
use mathlib.Core.Path.{◌≡◌, refl, sym, subst}
use mathlib.Core.Bool.{Bool, true, ◌&&◌, not}
use mathlib.Core.Logic.Iff
use mathlib.Core.Logic.{◌↔◌, ⊎_elim}
use Prim.Native.Nat.{ℕ, zero, suc, ◌≤◌, ◌<◌}
use native.Mathlib.Nat.{zero-add}
use native.Mathlib.Omega.{arith}
use lib.Dec.{eqb}
use borrow.Author.Tests.{eq-eqb, ne_eqb}
use Rattle.counting.specs.Count.{count_below, nth}
use Rattle.counting.proofs.Cases.{by_test, lt_or_le, above}
use Rattle.counting.proofs.Counts.{count_zero, count_here, count_skip, count_mono, count_past}
use Rattle.counting.proofs.Stretches.{stretch_is}

-- of a number z that passes: no more pass before x than before z exactly when x is at most z
pub rank_order : (p : ℕ → Bool) (x z : ℕ) → p z ≡ true → (count_below p x ≤ count_below p z) ↔ (x ≤ z)
rank_order p x z e = (λ h. ⊎_elim (λ l. absurd (omega (arith, count_past p z x e l))) (λ l. l) (lt_or_le z x), count_mono p x z)

-- two numbers that pass and have one rank are one
pub rank_injective : (p : ℕ → Bool) (a b : ℕ) → p a ≡ true → p b ≡ true → count_below p a ≡ count_below p b → a ≡ b
rank_injective p a b s t e = omega (arith, (rank_order p a b t).0 (omega arith), (rank_order p b a s).0 (omega arith))

-- each y below the count of m is the rank of a number that passes
pub rank_onto : (p : ℕ → Bool) (m y : ℕ) → y < count_below p m → (x : ℕ) × (x < m) × (p x ≡ true) × (count_below p x ≡ y)
rank_onto p zero y h = absurd (omega (arith, count_zero p))
rank_onto p (suc m) y h = by_test (p m)
    (λ e. ⊎_elim (λ l. wider (rank_onto p m y l)) (λ l. (m, omega arith, e, omega (arith, count_here p m e))) (lt_or_le y (count_below p m)))
    (λ e. wider (rank_onto p m y (omega (arith, count_skip p m e))))
  where
    wider : (x : ℕ) × (x < m) × (p x ≡ true) × (count_below p x ≡ y) → (x : ℕ) × (x < suc m) × (p x ≡ true) × (count_below p x ≡ y)
    wider r = (r.0, omega (arith, r.1), r.2, r.3)

-- the search passes over what does not pass, and over what has another rank
passed_over : (p : ℕ → Bool) (x y : ℕ) → (p x ≡ true → count_below p x ≡ y → ⊥) → not (p x && eqb (count_below p x) y) ≡ true
passed_over p x y h = by_test (p x) (λ e. rw (e, ne_eqb (count_below p x) y (h e)) refl) (λ e. rw e refl)

-- RANK THEN NTH: a number that passes is the nth of its rank
pub nth_is : (p : ℕ → Bool) (m x y : ℕ) → x < m → p x ≡ true → count_below p x ≡ y → nth p m y ≡ x
unfolding nth
nth_is p m x y h e r =
    stretch_is _ x 0 m (omega arith)
    (λ z _ l. passed_over p z y (λ f g. omega (arith, count_past p z x f (omega arith))))
    (λ _. rw (zero-add x) (rw (e, eq-eqb (count_below p x) y r) refl))

-- where too few pass there is none
pub nth_none : (p : ℕ → Bool) (m y : ℕ) → count_below p m ≤ y → nth p m y ≡ m
unfolding nth
nth_none p m y h =
    stretch_is _ m 0 m (omega arith)
    (λ z _ l. passed_over p z y (λ f g. omega (arith, count_past p z m f (omega arith))))
    (λ l. absurd (omega arith))

-- NTH THEN RANK: the nth passes and has its rank
pub record Found (p : ℕ → Bool) (m y x : ℕ) : Type 0 where
  pub below : x < m
  pub passes : p x ≡ true
  pub rank : count_below p x ≡ y

pub nth_found : (p : ℕ → Bool) (m y : ℕ) → y < count_below p m → Found p m y (nth p m y)
nth_found p m y h =
    let r = rank_onto p m y h in
    subst (Found p m y) (sym (nth_is p m r.0 y r.1 r.2 r.3)) (record { below = r.1; passes = r.2; rank = r.3 })

-- RANK AND NTH ARE ADJOINT up to m: at most y pass before x exactly when x is at most the nth, also where there is none and the nth is m
pub rank_at_most : (p : ℕ → Bool) (m x y : ℕ) → x ≤ m → (count_below p x ≤ y) ↔ (x ≤ nth p m y)
rank_at_most p m x y h = ⊎_elim there none (lt_or_le y (count_below p m))
  where
    there : y < count_below p m → (count_below p x ≤ y) ↔ (x ≤ nth p m y)
    there l = let F = nth_found p m y l in rw F.rank at (rank_order p x (nth p m y) F.passes)

    none : count_below p m ≤ y → (count_below p x ≤ y) ↔ (x ≤ nth p m y)
    none l = (λ _. omega (arith, nth_none p m y l), λ _. omega (arith, count_mono p x m h))

-- .. and more than y pass before x exactly when x is above the nth
pub rank_above : (p : ℕ → Bool) (m x y : ℕ) → x ≤ m → (y < count_below p x) ↔ (nth p m y < x)
rank_above p m x y h = above (count_below p x) y x (nth p m y) (rank_at_most p m x y h)

-- so there is one exactly when enough pass
pub nth_exactly : (p : ℕ → Bool) (m y : ℕ) → (nth p m y < m) ↔ (y < count_below p m)
nth_exactly p m y = Iff.symm (rank_above p m m y (omega arith))
