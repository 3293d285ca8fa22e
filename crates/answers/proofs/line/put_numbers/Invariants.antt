use Rattle.answers.proofs.Fields.{Told}
use Rattle.answers.proofs.line.put_numbers.Given as goal

abbrev pub invariant-loop-number : goal.invariant-loop-number
invariant-loop-number l = Told l.number-items l.number-index l.initial.text l.text
