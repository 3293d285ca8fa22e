-- `rank` of siblings and of a family meet their contracts. The loop: the sum so far and the rank in what is left make the whole.
-- The measure is the levels left, twice, since each calls the other. Assumes nothing.
use mathlib.Core.Path.{◌≡◌, refl, ap, ◌∙◌}
use Prim.Native.Nat.{ℕ, ◌+◌, ◌*◌, ◌≤◌}
use native.Mathlib.Omega.{arith}
use Rattle.counting.specs.Count.{count_below}
use Rattle.counting.proofs.Counts.{count_le}
use Rattle.families.specs.Forest.{Forest, has, inner}
use Rattle.families.specs.Decoded.{segments_of}
use Rattle.families.specs.Lent.{forest_of}
use Rattle.families.proofs.Division.{part}
use Rattle.families.proofs.NestedFamily.{leaf_counts, kids_count}
use Rattle.families.proofs.Loops.{rest_first, rest_some, rest_next, rest_falls, rest_nil, rank_step, nil_rank}
use Rattle.families.proofs.+rank.Goals as goal
use Rattle.families.proofs.+rank.Goals.{nested::Nested::rank-After-rank, nested::Nested::rank-After-size}

pub nested::Nested::rank-leaf_rank-requires : goal.nested::Nested::rank-leaf_rank-requires
nested::Nested::rank-leaf_rank-requires t c = c.args.self.now.fits.stride

pub nested::Nested::rank-returns-then-self-eq0 : goal.nested::Nested::rank-returns-then-self-eq0
nested::Nested::rank-returns-then-self-eq0 t c = leaf_counts c.args.self.now _ _ c.if-self-eq0.true c.leaf_rank.ensures

-- the children's size for each whole segment, and their rank for the part of one; no more than there are offsets below x
counted : (t : ℕ) (c : nested::Nested::rank-After-size t)
    → let n = c.args.self.now in
    let f = n.family in
    let all = count_below (segments_of f (inner (forest_of n.children))) c.args.x in
    (c.from.result * c.size.result + count_below (has (forest_of n.children)) (part f.l f.r f.s f.n c.args.x) ≡ all) × (all ≤ c.args.x)
counted t c =
    (rw (c.from.ensures ∙ c.whole_before.ensures) (kids_count c.args.self.now c.if-self-eq0.false _ _ _ _ c.size.ensures refl refl), count_le _ c.args.x)

pub nested::Nested::rank-overflow_mul-whole : goal.nested::Nested::rank-overflow_mul-whole
nested::Nested::rank-overflow_mul-whole t c = omega (arith, counted t c, c.ranges.x)

made : (t : ℕ) (c : nested::Nested::rank-After-rank t)
    → let n = c.args.self.now in
    c.from.result * c.size.result + c.rank.result ≡ count_below (segments_of n.family (inner (forest_of n.children))) c.args.x
made t c =
    ap (λ (r : ℕ). c.from.result * c.size.result + r) (c.rank.ensures ∙ ap (count_below (has (forest_of c.args.self.now.children))) c.part_before.ensures)
    ∙ (counted t (goal.at.nested::Nested::rank-returns t c).After-size).0

pub nested::Nested::rank-overflow_add-result : goal.nested::Nested::rank-overflow_add-result
nested::Nested::rank-overflow_add-result t c =
    omega (arith, made t c, counted t (goal.at.nested::Nested::rank-overflow_add-result t c).After-size, c.ranges.x)

pub nested::Nested::rank-returns : goal.nested::Nested::rank-returns
nested::Nested::rank-returns t c = made t c

pub siblings::Siblings::rank-loop-init : goal.siblings::Siblings::rank-loop-init
siblings::Siblings::rank-loop-init t c = (rest_first _, omega arith)

pub siblings::Siblings::rank-split_first-requires : goal.siblings::Siblings::rank-split_first-requires
siblings::Siblings::rank-split_first-requires t c = rest_some c.loop.invariant.0 c.loop-test.true

pub siblings::Siblings::rank-rank-sum-requires : goal.siblings::Siblings::rank-rank-sum-requires
siblings::Siblings::rank-rank-sum-requires t c = (omega (arith, rest_falls c.loop.invariant.0 c.split_first.ensures), tt)

pub siblings::Siblings::rank-overflow_add-sum : goal.siblings::Siblings::rank-overflow_add-sum
siblings::Siblings::rank-overflow_add-sum t c =
    omega (arith, c.rank-sum.ensures, rank_step c.split_first.ensures c.args.x, c.loop.invariant.1, count_le (has (forest_of c.args.self.now)) c.args.x)

pub siblings::Siblings::rank-loop-preserved : goal.siblings::Siblings::rank-loop-preserved
siblings::Siblings::rank-loop-preserved t c =
    (rest_next c.loop.invariant.0 c.split_first.ensures, omega (arith, c.rank-sum.ensures, rank_step c.split_first.ensures c.args.x, c.loop.invariant.1))

pub siblings::Siblings::rank-returns : goal.siblings::Siblings::rank-returns
siblings::Siblings::rank-returns t c =
    omega (arith, c.loop.invariant.1, ap (λ (F : Forest). count_below (has F) c.args.x) (rest_nil c.loop.invariant.0 c.loop-test.false), nil_rank c.args.x)
