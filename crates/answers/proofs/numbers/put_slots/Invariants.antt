use Rattle.answers.proofs.Slots.{Returned}
use Rattle.answers.proofs.numbers.put_slots.Given as goal

abbrev pub invariant-loop-i : goal.invariant-loop-i
invariant-loop-i l = Returned l.list l.initial.buffer l.i l.buffer
