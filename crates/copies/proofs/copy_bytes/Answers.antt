-- `copy_bytes` meets its contract. The loop's invariant: the first i bytes are copied. Assumes nothing.
use native.Mathlib.Omega.{arith}
use Rattle.copies.proofs.Chunks.{none_yet, byte, all}
use Rattle.copies.proofs.copy_bytes.Goals as goal

pub loop-i-init : goal.loop-i-init
loop-i-init c = none_yet _ _ c.requires.same

pub loop-i-preserved : goal.loop-i-preserved
loop-i-preserved c = byte c.loop-i.invariant (omega arith)

pub returns : goal.returns
returns c = all c.loop-i.invariant (omega arith)
