-- `put_slots` meets its contract: after i turns, i slots are put back. Assumes nothing.
use Rattle.answers.proofs.Slots.{returned_none, returned_more, returned_all}
use Rattle.answers.proofs.numbers.put_slots.Goals as goal

pub loop-i-init : goal.loop-i-init
loop-i-init c = returned_none

pub loop-i-preserved : goal.loop-i-preserved
loop-i-preserved c = returned_more c.loop-i.invariant c.loop-i-test.true c.put_slot.ensures

pub returns : goal.returns
returns c = returned_all c.loop-i.invariant c.loop-i-test.false
