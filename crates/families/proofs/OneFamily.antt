-- The ways out of the functions that look at one family. Assumes nothing.
use mathlib.Core.Path.{◌≡◌, refl, sym, ap₂, ◌∙◌}
use mathlib.Core.Bool.{true, false, cond}
use mathlib.Core.Logic.{⊎_elim}
use Prim.Native.Nat.{ℕ, suc, ◌+◌, ◌-◌, ◌*◌, ◌/◌, ◌%◌, ◌^◌, ◌≤◌, ◌<◌, min}
use native.Mathlib.Nat.{suc-mul, mul-le-mul_right, min-eq_left, min-eq_right}
use native.Mathlib.Omega.{arith}
use lib.Dec.{leb, ltb}
use borrow.Author.Tests.{le-leb, lt-leb, lt-ltb, le-ltb}
use Rattle.counting.specs.Count.{count_below}
use Rattle.counting.proofs.Cases.{lt_or_le}
use Rattle.counting.proofs.Counts.{count_all}
use Rattle.families.specs.Forest.{in_segments, Stride}
use Rattle.families.proofs.Division.{leaf_div, whole, part, segments_count}

-- `covers`
module _ (l r s n x : ℕ) (st : Stride l r s n) where
  pub in_before : x < l → false ≡ in_segments (λ _. true) l r s n x
  in_before h = sym (leaf_div l r s n x st ∙ rw (lt-leb l x h) refl)

  pub in_beyond : (q : ℕ) → l ≤ x → n ≤ q → q ≡ (x - l) / s → false ≡ in_segments (λ _. true) l r s n x
  in_beyond q h m e = sym (leaf_div l r s n x st ∙ rw (le-leb l x h, le-ltb ((x - l) / s) n (omega arith)) refl)

  pub in_within : (q w last : ℕ) → l ≤ x → q < n → q ≡ (x - l) / s → w ≡ (x - l) % s → last ≡ r - l → leb w last ≡ in_segments (λ _. true) l r s n x
  in_within q w last h m e f g = sym (leaf_div l r s n x st ∙ rw (le-leb l x h, lt-ltb ((x - l) / s) n (omega arith), f, g) refl)

-- what a rank in one family multiplies and adds fits
pub sum_fits : (k len w : ℕ) → k < 2 ^ 32 → len ≤ 2 ^ 32 → w < 2 ^ 32 → k * len + w < 2 ^ 64
sum_fits k len w h m j = omega (arith, mul-le-mul_right {m = k} {n = 2 ^ 32 - 1} len (omega arith))

-- `leaf_rank`: the two caps leave whole segments and a part of the next one
caps : (q w n len : ℕ) → min (q * len + min w len) (n * len) ≡ min q n * len + cond (ltb q n) (min w len) 0
caps q w n len = ⊎_elim
    (λ h. rw (lt-ltb q n h, min-eq_left {n = q} {m = n} (omega arith)) (omega (arith, suc-mul q len, mul-le-mul_right {m = suc q} {n = n} len h)))
    (λ h. rw (le-ltb q n h, min-eq_right {n = n} {m = q} h) (omega (arith, mul-le-mul_right {m = n} {n = q} len h)))
    (lt_or_le q n)

-- without children every byte of a segment counts
leaf_count : (l r s n x : ℕ) → Stride l r s n → count_below (in_segments (λ _. true) l r s n) x ≡ whole l s n x * (r - l + 1) + part l r s n x
leaf_count l r s n x st =
    segments_count (λ _. true) l r s n x st
    ∙ ap₂ (λ (c d : ℕ). whole l s n x * c + d) (count_all _ _ (λ _ _. refl)) (count_all _ _ (λ _ _. refl))

-- u, len, q, w and m are what the steps before the caps answer
pub leaf_rank_is : (l r s n x u len q w m : ℕ) → Stride l r s n → u ≡ x - l → len ≡ r - l + 1 → q ≡ u / s → w ≡ u % s → m ≡ n
    → min (q * len + min w len) (m * len) ≡ count_below (in_segments (λ _. true) l r s n) x
leaf_rank_is l r s n x u len q w m st e f g h k = rw (g, h, e, f, k) (caps _ _ _ _ ∙ sym (leaf_count l r s n x st))
