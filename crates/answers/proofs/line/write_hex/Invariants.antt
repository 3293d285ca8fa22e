use Rattle.answers.proofs.Hexes.{Spelled}
use Rattle.answers.proofs.line.write_hex.Given as goal

abbrev pub invariant-loop-i : goal.invariant-loop-i
invariant-loop-i l = Spelled l.bytes l.initial.digits l.i l.digits
