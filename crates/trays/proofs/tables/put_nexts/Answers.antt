-- `put_nexts` meets its contract. The loop's invariant: the first places of the elements so far are written down. Assumes nothing.
use native.Mathlib.Omega.{arith}
use Rattle.trays.proofs.Firsts.{FirstAt, first_at, firsts_small, firsts_next}
use Rattle.trays.proofs.tables.put_nexts.Goals as goal
use Rattle.trays.proofs.tables.put_nexts.Goals.{After-byte-byte}

-- the element's first byte
byte : (c : After-byte-byte) → let pattern = c.args.pattern.now in
    FirstAt pattern.layout.now pattern.size c.loop-e.e c.byte-byte.result.0
byte c =
    first_at _ c.args.pattern.now.ok c.subfile_of-subfile.ensures.families c.subfile_of-subfile.ensures.selection c.byte-byte.ensures

pub overflow_sub-nexts : goal.overflow_sub-nexts
overflow_sub-nexts c = rw c.from-from.ensures (byte (goal.at.overflow_sub-nexts c).After-byte-byte).after

pub overflow_add-nexts : goal.overflow_add-nexts
overflow_add-nexts c =
    omega (arith, c.from-from.ensures, firsts_small c.loop-e.invariant c.args.pattern.now.ok c.loop-e-test.true (byte (goal.at.overflow_add-nexts c).After-byte-byte))

pub loop-e-preserved : goal.loop-e-preserved
loop-e-preserved c =
    rw c.from-from.ensures (firsts_next c.loop-e.invariant c.args.pattern.now.ok c.loop-e-test.true (byte (goal.at.loop-e-preserved c).After-byte-byte))
