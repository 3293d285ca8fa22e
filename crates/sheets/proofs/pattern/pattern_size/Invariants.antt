use Rattle.sheets.proofs.Summing.{Summed}
use Rattle.sheets.proofs.pattern.pattern_size.Given as goal

abbrev pub invariant-loop-e : goal.invariant-loop-e
invariant-loop-e l = Summed l.fn.layout l.e l.sum
