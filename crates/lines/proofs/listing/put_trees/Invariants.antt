use Rattle.lines.proofs.Lines.{Lined}
use Rattle.lines.proofs.listing.put_trees.Given as goal

abbrev pub invariant-loop-e : goal.invariant-loop-e
invariant-loop-e l = Lined l.fn.layout l.initial.text l.text l.e
