-- `pattern_size` meets its contract. The loop's invariant: the sum is the size of the elements before this one. Assumes nothing.
use native.Mathlib.Omega.{arith}
use Rattle.sheets.proofs.Summing.{summed_none, summed_small, tree_ruled, size_small, summed_next, summed_all}
use Rattle.sheets.proofs.pattern.pattern_size.Goals as goal

pub loop-e-init : goal.loop-e-init
loop-e-init c = summed_none _ c.requires

pub siblings-requires-clause-ruled : goal.siblings-requires-clause-ruled
siblings-requires-clause-ruled c = tree_ruled c.loop-e.invariant (omega arith)

pub overflow_add-sum : goal.overflow_add-sum
overflow_add-sum c =
    let S = c.loop-e.invariant in
    omega (arith, summed_small S, size_small S (omega arith) _ c.siblings.ensures.tree _ c.size-sum.ensures)

pub loop-e-preserved : goal.loop-e-preserved
loop-e-preserved c = summed_next c.loop-e.invariant (omega arith) _ c.siblings.ensures.tree _ c.size-sum.ensures

pub overflow_cast-result : goal.overflow_cast-result
overflow_cast-result c = omega (arith, summed_small c.loop-e.invariant)

pub returns : goal.returns
returns c = summed_all c.loop-e.invariant (omega arith)
