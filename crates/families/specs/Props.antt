-- The sheet rules have one proof at most, so a struct may hold them as a ghost field. Assumes nothing.
use mathlib.Core.Path.{ap, subst}
use mathlib.Core.HLevel.{×_prop, ×₃_prop, Unit-prop}
use mathlib.Core.Logic.{inl, inr}
use Prim.Native.Nat.{ℕ, ◌≤◌}
use native.Mathlib.Nat.{ℕ_set, lt_irrefl}
use native.Mathlib.Bridge.{le_prop}
use Rattle.families.specs.Forest.{Forest, nil, node, Stride, Fits, WF}

Stride-prop : (l r s n : ℕ) → IsProp (Stride l r s n)
Stride-prop l r s n (inl a) (inl b) = ap inl (×_prop (ℕ_set _ _) (ℕ_set _ _) a b)
Stride-prop l r s n (inl a) (inr b) = absurd (lt_irrefl 1 (subst (λ m. 2 ≤ m) a.0 b.0))
Stride-prop l r s n (inr a) (inl b) = absurd (lt_irrefl 1 (subst (λ m. 2 ≤ m) b.0 a.0))
Stride-prop l r s n (inr a) (inr b) = ap inr (×_prop le_prop le_prop a b)

pub Fits-prop : (from bound l r s n : ℕ) → IsProp (Fits from bound l r s n)
Fits-prop from bound l r s n x y = λ i. record {
  some = le_prop x.some y.some i;
  forward = le_prop x.forward y.forward i;
  stride = Stride-prop l r s n x.stride y.stride i;
  after = le_prop x.after y.after i;
  inside = le_prop x.inside y.inside i;
}

pub WF-prop : (from bound : ℕ) (F : Forest) → IsProp (WF from bound F)
unfolding WF
WF-prop from bound nil = Unit-prop
WF-prop from bound (node l r s n kids rest) = ×₃_prop (Fits-prop from bound l r s n) (WF-prop 0 _ kids) (WF-prop _ bound rest)
