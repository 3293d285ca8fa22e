use Prim.Native.Nat.{◌*◌}
use Rattle.copies.proofs.Chunks.{SoFar}
use Rattle.copies.proofs.copy_many.Given as goal

abbrev pub invariant-loop-chunk : goal.invariant-loop-chunk
invariant-loop-chunk l = SoFar l.src l.dst (64 * l.chunk)
