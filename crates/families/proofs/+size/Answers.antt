-- `size` of siblings and `segment_size` of a family meet their contracts. The loop: the sum so far and the size of what is left make the whole.
-- The measure is the levels left, twice, since each calls the other. Assumes nothing.
use mathlib.Core.Path.{◌≡◌, sym, ap, ◌∙◌}
use Prim.Native.Nat.{ℕ, ◌+◌, ◌*◌, ◌≤◌}
use native.Mathlib.Omega.{arith}
use Rattle.families.specs.Forest.{FARTHEST, size_of}
use Rattle.families.specs.Lent.{forest_of}
use Rattle.families.proofs.Forests.{size_le}
use Rattle.families.proofs.NestedFamily.{leaf_size, kids_size}
use Rattle.families.proofs.Loops.{rest_first, rest_some, rest_next, rest_falls, rest_nil, size_step, nil_size}
use Rattle.families.proofs.+size.Goals as goal
use Rattle.families.proofs.+size.Goals.{siblings::Siblings::size-After-segment_size}

pub nested::Nested::segment_size-returns-then-self-eq0 : goal.nested::Nested::segment_size-returns-then-self-eq0
nested::Nested::segment_size-returns-then-self-eq0 t c = leaf_size c.args.self.now _ c.if-self-eq0.true c.segment_len.ensures

pub nested::Nested::segment_size-returns : goal.nested::Nested::segment_size-returns
nested::Nested::segment_size-returns t c = c.size.ensures ∙ sym (kids_size c.args.self.now c.if-self-eq0.false)

-- what the eldest selects and what the younger siblings do make what is left, which fits
turn : (t : ℕ) (c : siblings::Siblings::size-After-segment_size t)
    → (c.loop.sum + (c.from.result * c.segment_size.result + size_of (forest_of c.split_first.result.1)) ≡ size_of (forest_of c.args.self.now))
    × (size_of (forest_of c.args.self.now) ≤ FARTHEST + 1)
turn t c =
    let each = c.segment_size.ensures in
    let step = size_step c.split_first.ensures _ each in
    (rw c.from.ensures (omega (arith, step, c.loop.invariant.1)), size_le 0 FARTHEST _ c.args.self.now.ruled)

pub siblings::Siblings::size-loop-init : goal.siblings::Siblings::size-loop-init
siblings::Siblings::size-loop-init t c = (rest_first _, omega arith)

pub siblings::Siblings::size-split_first-requires : goal.siblings::Siblings::size-split_first-requires
siblings::Siblings::size-split_first-requires t c = rest_some c.loop.invariant.0 c.loop-test.true

pub siblings::Siblings::size-segment_size-requires : goal.siblings::Siblings::size-segment_size-requires
siblings::Siblings::size-segment_size-requires t c = (omega (arith, rest_falls c.loop.invariant.0 c.split_first.ensures), tt)

pub siblings::Siblings::size-overflow_mul-sum : goal.siblings::Siblings::size-overflow_mul-sum
siblings::Siblings::size-overflow_mul-sum t c = omega (arith, turn t c)

pub siblings::Siblings::size-overflow_add-sum : goal.siblings::Siblings::size-overflow_add-sum
siblings::Siblings::size-overflow_add-sum t c = omega (arith, turn t c)

pub siblings::Siblings::size-loop-preserved : goal.siblings::Siblings::size-loop-preserved
siblings::Siblings::size-loop-preserved t c = (rest_next c.loop.invariant.0 c.split_first.ensures, omega (arith, turn t c))

pub siblings::Siblings::size-returns : goal.siblings::Siblings::size-returns
siblings::Siblings::size-returns t c =
    omega (arith, c.loop.invariant.1, ap size_of (rest_nil c.loop.invariant.0 c.loop-test.false), nil_size)
