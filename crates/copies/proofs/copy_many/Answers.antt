-- `copy_many` meets its contract. The loop's invariant: so many chunks are copied. The last chunk starts among them. Assumes nothing.
use Rattle.std.proofs.Common.{◌≡◌, ◌+◌, ◌-◌, ◌*◌, ℕ, length, refl}
use native.Mathlib.Omega.{arith}
use Rattle.copies.proofs.Chunks.{none_yet, more, all}
use Rattle.copies.proofs.copy_many.Goals as goal

pub loop-chunk-init : goal.loop-chunk-init
loop-chunk-init c = none_yet _ _ c.requires.same

pub loop-chunk-preserved : goal.loop-chunk-preserved
loop-chunk-preserved c =
    let at : ℕ = 64 * c.loop-chunk.chunk in
    let size : ℕ = at + 64 - at in
    let e : 64 * (c.loop-chunk.chunk + 1) ≡ at + size = omega arith in
    rw e (more c.loop-chunk.invariant at size size c.copy_chunk.ensures refl (omega arith) (omega arith))

pub returns : goal.returns
returns c =
    let S = c.loop-chunk.invariant in
    let last : ℕ = length c.args.src.now - 64 in
    all (more S last _ (length c.args.src.now - last) c.copy_chunk-2.ensures (omega (arith, S.same_length)) (omega arith) (omega arith)) (omega arith)
