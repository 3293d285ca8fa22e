-- `look_ahead` meets its contract: the marks stand for the selection. Assumes nothing.
use Prim.Native.Nat.{ℕ}
use native.Mathlib.Omega.{arith}
use lib.ListN.{length-replicate}
use Rattle.moves.proofs.Looking.{look_from, look_near, look_nexts, look_strides}
use Rattle.moves.proofs.ahead.look_ahead.Goals as goal

pub overflow_sub-first : goal.overflow_sub-first
overflow_sub-first g c =
    rw c.from-from.ensures (look_from c.args.subfile.now.ok _ c.byte-byte.ensures)

pub overflow_add-nexts : goal.overflow_add-nexts
overflow_add-nexts g c =
    let ok = c.args.subfile.now.ok in
    omega (arith, ok.short, c.from-from.ensures, look_near ok _ c.byte-byte.ensures)

pub fill_strides-requires : goal.fill_strides-requires
fill_strides-requires g c = record {
  nexts = rw c.from-from.ensures (look_nexts c.args.subfile.now.ok _ c.byte-byte.ensures c.requires.fits _ (rw (length-replicate {A = ℕ} g.row.N 0) at c.fill.ensures));
  room = c.requires.room;
}

pub returns : goal.returns
returns g c =
    look_strides c.args.subfile.now.ok _ c.byte-byte.ensures c.requires.fits _ (rw (length-replicate {A = ℕ} g.row.N 0) at c.fill.ensures)
    (rw c.from-from.ensures at c.fill_strides.ensures)
