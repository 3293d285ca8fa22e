-- `gather` meets its contract: either size of table has room for a period of the selection. Assumes nothing.
use native.Mathlib.Omega.{arith}
use Rattle.runs.proofs.Room.{side_smaller}
use Rattle.moves.proofs.Bounds.{carries_of, gather_empty}
use Rattle.moves.proofs.gathering.gather.Goals as goal

pub returns-then-window : goal.returns-then-window
returns-then-window c = gather_empty c.args.file.now _ c.requires.buffers c.if-window.true

pub gather_by_table-requires : goal.gather_by_table-requires
gather_by_table-requires c =
    let small = side_smaller c.requires.side 2048 _ c.fits.ensures c.if-fits.true in
    record { small = omega arith; fits = small.fits; carries = carries_of small c.requires.buffers c.if-window.false }

pub gather_by_table-requires-else-fits : goal.gather_by_table-requires-else-fits
gather_by_table-requires-else-fits c =
    record { small = omega arith; fits = c.requires.side.fits; carries = carries_of c.requires.side c.requires.buffers c.if-window.false }
