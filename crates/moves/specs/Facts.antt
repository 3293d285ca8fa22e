-- The strides of a selection are a fact: two proofs of it are the same, so that a struct can carry one. Assumes nothing.
use Rattle.std.specs.Prelude.{Bool, List, ℕ, ◌-◌, ◌%◌}
use Rattle.std.specs.Coded.{le_prop}
use Rattle.std.proofs.Math.Bool.{Bool-set}
use Rattle.maps.specs.declared.Selection.{Selection}
use Rattle.moves.specs.declared.ahead.Stride.{Stride}
use Rattle.moves.specs.Strides.{Ahead, AheadBy, Strides}

ahead_prop : (p : ℕ → Bool) (x run far : ℕ) → IsProp (Ahead p x run far)
ahead_prop p x run far a b = λ i. record {
  some = le_prop a.some b.some i;
  within = le_prop a.within b.within i;
  all = λ y l. Bool-set _ _ (a.all y l) (b.all y l) i;
  none = λ y k l. Bool-set _ _ (a.none y k l) (b.none y k l) i;
  next = Bool-set _ _ a.next b.next i;
}

by_prop : (p : ℕ → Bool) (x period : ℕ) (strides : List Stride) (u : ℕ) → IsProp (AheadBy p x period strides u)
by_prop p x period strides u a b = λ i. record { ahead = ahead_prop p x _ _ a.ahead b.ahead i; short = le_prop a.short b.short i }

pub strides_prop : (s : Selection) (p : ℕ → Bool) (strides : List Stride) → IsProp (Strides s p strides)
strides_prop s p strides a b = λ i. record {
  some = le_prop a.some b.some i;
  held = le_prop a.held b.held i;
  each = λ x k e. by_prop p x s.period strides ((x - s.from) % s.period) (a.each x k e) (b.each x k e) i;
}
