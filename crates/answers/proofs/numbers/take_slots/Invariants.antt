use Rattle.answers.proofs.Slots.{Taken}
use Rattle.answers.proofs.numbers.take_slots.Given as goal

abbrev pub invariant-loop-i : goal.invariant-loop-i
invariant-loop-i l = Taken l.buffer l.initial.list l.i l.list
