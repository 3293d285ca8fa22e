-- `end` meets its contract. The loop's invariant: the farthest end so far or that of what is left is the end of all. Assumes nothing.
use mathlib.Core.Path.{ap}
use native.Mathlib.Omega.{arith}
use Rattle.families.specs.Forest.{end_of}
use Rattle.families.proofs.Loops.{rest_first, rest_some, rest_next, rest_nil, end_step, nil_end}
use Rattle.families.proofs.siblings.Siblings.end.Goals as goal

pub loop-init : goal.loop-init
loop-init c = (rest_first _, omega arith)

pub split_first-requires : goal.split_first-requires
split_first-requires c = rest_some c.loop.invariant.0 c.loop-test.true

pub end-requires : goal.end-requires
end-requires c = c.split_first.result.0.fits

pub loop-preserved : goal.loop-preserved
loop-preserved c =
    (rest_next c.loop.invariant.0 c.split_first.ensures, omega (arith, c.end.ensures, c.max-farthest.ensures, end_step c.split_first.ensures, c.loop.invariant.1))

pub returns : goal.returns
returns c = omega (arith, c.loop.invariant.1, ap end_of (rest_nil c.loop.invariant.0 c.loop-test.false), nil_end)
