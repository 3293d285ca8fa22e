use Rattle.trays.proofs.Firsts.{Firsts}
use Rattle.trays.proofs.tables.put_nexts.Given as goal

abbrev pub invariant-loop-e : goal.invariant-loop-e
invariant-loop-e l = Firsts l.pattern.layout.now l.pattern.size l.initial.nexts l.nexts l.e
