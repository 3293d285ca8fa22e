use Rattle.copies.proofs.Chunks.{SoFar}
use Rattle.copies.proofs.copy_bytes.Given as goal

abbrev pub invariant-loop-i : goal.invariant-loop-i
invariant-loop-i l = SoFar l.src l.dst l.i
