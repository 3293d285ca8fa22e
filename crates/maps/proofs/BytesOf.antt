-- The bytes of a selection: one file offset only is byte y, where byte y is found and where it is not, and which byte next mapping finds. Assumes nothing.
use mathlib.Core.Path.{◌≡◌}
use mathlib.Core.Bool.{Bool, true, false}
use Prim.Native.Nat.{ℕ, ◌+◌, ◌-◌, ◌≤◌, ◌<◌}
use native.Mathlib.Omega.{arith}
use Rattle.counting.specs.Count.{count_below, count_in, nth}
use Rattle.counting.proofs.Counts.{count_none, count_window, count_mono}
use Rattle.counting.proofs.Nths.{rank_injective, nth_is, nth_none}
use Rattle.maps.specs.Selected.{Byte}

module _ (p : ℕ → Bool) where
  -- ---- one file offset only is byte y
  pub byte_unique : (y a b : ℕ) → Byte p y a → Byte p y b → a ≡ b
  byte_unique y a b A B = rank_injective p a b A.0 B.0 (omega (arith, A.1, B.1))

  -- ---- byte y is found below whatever lies past it; below anything else there is none, nor a later one
  module _ (y r : ℕ) (R : Byte p y r) where
    pub inverse_near : (m : ℕ) → r < m → nth p m y ≡ r
    inverse_near m h = nth_is p m r y h R.0 R.1

    pub inverse_far : (m : ℕ) → m ≤ r → (z : ℕ) → y ≤ z → nth p m z ≡ m
    inverse_far m h z l = nth_none p m z (omega (arith, count_mono p m r h, R.1))

  -- ---- NEXT MAPPING: the rank of x is the number of the first byte from x on
  pub next_is : (x z : ℕ) → x ≤ z → p z ≡ true → ((w : ℕ) → x ≤ w → w < z → p w ≡ false) → Byte p (count_below p x) z
  unfolding count_in
  next_is x z h e none = (e, omega (arith, count_window p x z h, count_none (λ w. p (x + w)) (z - x) (λ w l. none (x + w) (omega arith) (omega arith))))
