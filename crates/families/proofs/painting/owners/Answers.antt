-- `owners` meets its contract. The loop's invariant: the table has the owners among the first e elements. Assumes nothing.
use native.Mathlib.Omega.{arith}
use Rattle.families.proofs.Owning.{going_start, going_ruled, going_asks, going_next, going_end}
use Rattle.families.proofs.painting.owners.Goals as goal

pub loop-e-init : goal.loop-e-init
loop-e-init c = going_start _ _ _ _ c.requires.zeros c.requires.some c.requires.ruled

pub siblings-requires-clause-ruled : goal.siblings-requires-clause-ruled
siblings-requires-clause-ruled c = going_ruled c.loop-e.invariant c.loop-e-test.true (omega arith)

pub paint-requires-clause-ruled : goal.paint-requires-clause-ruled
paint-requires-clause-ruled c = going_asks c.loop-e.invariant c.loop-e-test.true _ c.siblings.ensures.tree

pub loop-e-preserved : goal.loop-e-preserved
loop-e-preserved c = going_next c.loop-e.invariant c.loop-e-test.true _ c.siblings.ensures.tree _ c.paint.ensures

pub returns : goal.returns
returns c = going_end c.loop-e.invariant c.loop-e-test.false
