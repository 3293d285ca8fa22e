use lib.ListN.{length}
use Rattle.families.proofs.Owning.{Going}
use Rattle.families.proofs.painting.owners.Given as goal

abbrev pub invariant-loop-e : goal.invariant-loop-e
invariant-loop-e l = Going l.levels l.layout (length l.initial.table) l.e l.table
