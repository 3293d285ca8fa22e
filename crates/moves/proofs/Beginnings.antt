-- The first selected byte of a window, and the two ways of `further`. Assumes nothing.
use mathlib.Core.Path.{◌≡◌, refl, sym, ap, ◌∙◌}
use mathlib.Core.Bool.{Bool, false}
use mathlib.Core.List.{List}
use Prim.Native.Nat.{ℕ, ◌+◌, ◌-◌, ◌%◌, ◌^◌, ◌≤◌, ◌<◌}
use native.Mathlib.Nat.{zero-add, add-sub_of_le}
use native.Mathlib.Omega.{arith}
use borrow.Author.Tests.{le-leb, lt-leb}
use Rattle.counting.specs.Count.{count_below}
use Rattle.counting.proofs.Cases.{by_test}
use Rattle.counting.proofs.Counts.{count_le, count_mono, count_past}
use Rattle.counting.proofs.Nths.{rank_order}
use Rattle.counting.proofs.Gathers.{count_in_skip}
use Rattle.maps.specs.declared.Selection.{Selection}
use Rattle.maps.specs.Selected.{Byte}
use Rattle.moves.specs.declared.ahead.Stride.{Stride}
use Rattle.moves.specs.declared.walks.Walk.{Walk}
use Rattle.moves.specs.Strides.{onwards, furthers}
use Rattle.moves.specs.Walks.{Begun}

-- ---- x is the byte that has the rank of a
pub rank_near : (p : ℕ → Bool) (a y : ℕ) → y ≡ count_below p a → a < 2 ^ 40 → y < 2 ^ 40
rank_near p a y e h = omega (arith, e, count_le p a)

module _ (p : ℕ → Bool) (a y x : ℕ) (e : y ≡ count_below p a) (B : Byte p y x) where
  pub byte_after : a ≤ x
  byte_after = (rank_order p a x B.0).0 (omega (arith, B.1))

  pub none_between : (z : ℕ) → a ≤ z → z < x → p z ≡ false
  none_between z u v = by_test (p z) (λ t. absurd (omega (arith, count_past p z x t v, count_mono p a z u, B.1))) (λ t. t)

  pub begun : (s : Selection) → s.from ≤ a → Begun s p a (record { at = x - a; place = (x - s.from) % s.period; packed = 0 })
  begun s after =
      let there : a + (x - a) ≡ x = add-sub_of_le byte_after in
      let none : (z : ℕ) → z < x - a → p (a + z) ≡ false = λ z l. none_between (a + z) (omega arith) (omega arith) in
      record {
        stands = λ n. record {
          after = after;
          here = ap p there ∙ B.0;
          place = rw there refl;
          left = zero-add _ ∙ sym (count_in_skip p a (x - a) n none);
        };
        none = none;
        first = refl;
      }

-- ---- the two ways of `further`
pub furthers_on : (s : Selection) (strides : List Stride) (w : Walk) (run len : ℕ) → run ≤ len → furthers s strides w run len ≡ onwards s strides w run
unfolding furthers
furthers_on s strides w run len h = rw (le-leb run len h) refl

pub furthers_in : (s : Selection) (strides : List Stride) (w : Walk) (run len : ℕ) → len < run
    → furthers s strides w run len ≡ record { at = w.at + len; place = (w.place + len) % s.period; packed = w.packed + len }
unfolding furthers
furthers_in s strides w run len h = rw (lt-leb run len h) refl

pub further_in : (s : Selection) (strides : List Stride) (w : Walk) (run len : ℕ) → len < run → (place : ℕ) → place ≡ (w.place + len) % s.period
    → ◌≡◌ {A = Walk} (record { at = w.at + len; place = place; packed = w.packed + len }) (furthers s strides w run len)
further_in s strides w run len h place e = rw e (sym (furthers_in s strides w run len h))
