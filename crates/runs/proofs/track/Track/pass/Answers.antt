-- `pass` meets its contract. The loop's invariant: every offset that was passed is as wanted. Assumes nothing.
use native.Mathlib.Omega.{arith}
use Rattle.runs.proofs.Passing.{passing_start, passing_marks, passing_ranks, passing_next, passing_stop, passing_end}
use Rattle.runs.proofs.track.Track.pass.Goals as goal

pub loop-walk-init : goal.loop-walk-init
loop-walk-init c = passing_start _ c.requires

pub both-both-requires-clause-one : goal.both-both-requires-clause-one
both-both-requires-clause-one c = (passing_marks c.loop-walk.invariant).0

pub both-both-requires-clause-two : goal.both-both-requires-clause-two
both-both-requires-clause-two c = (passing_marks c.loop-walk.invariant).1

pub returns-then-both-wanted : goal.returns-then-both-wanted
returns-then-both-wanted c = passing_stop c.loop-walk.invariant _ c.both-both.ensures c.if-both-wanted.true

pub next-requires-clause-marked : goal.next-requires-clause-marked
next-requires-clause-marked c = (passing_marks c.loop-walk.invariant).0

pub next-requires-clause-near : goal.next-requires-clause-near
next-requires-clause-near c = omega (arith, passing_ranks c.loop-walk.invariant)

pub next-requires-in-loop-walk-clause-marked : goal.next-requires-in-loop-walk-clause-marked
next-requires-in-loop-walk-clause-marked c = (passing_marks c.loop-walk.invariant).1

pub next-requires-in-loop-walk-clause-near : goal.next-requires-in-loop-walk-clause-near
next-requires-in-loop-walk-clause-near c = omega (arith, passing_ranks c.loop-walk.invariant)

pub loop-walk-smaller : goal.loop-walk-smaller
loop-walk-smaller c = omega (arith, c.loop-walk-test.true)

pub loop-walk-preserved : goal.loop-walk-preserved
loop-walk-preserved c =
    passing_next c.loop-walk.invariant _ c.both-both.ensures c.if-both-wanted.false c.loop-walk-test.true _ _ c.next.ensures c.next-in-loop-walk.ensures

pub returns : goal.returns
returns c = passing_end c.loop-walk.invariant (omega (arith, c.loop-walk-test.false))
