-- `take_slots` meets its contract: after i turns, i slots are taken. Assumes nothing.
use Rattle.answers.proofs.Slots.{taken_none, taken_more, taken_all}
use Rattle.answers.proofs.numbers.take_slots.Goals as goal

pub loop-i-init : goal.loop-i-init
loop-i-init c = taken_none

pub loop-i-preserved : goal.loop-i-preserved
loop-i-preserved c = rw c.le64_at.ensures (taken_more c.loop-i.invariant c.loop-i-test.true)

pub returns : goal.returns
returns c = taken_all c.loop-i.invariant c.loop-i-test.false
