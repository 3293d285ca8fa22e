-- `scatter` meets its contract: either size of table has room for a period of the selection. Assumes nothing.
use native.Mathlib.Omega.{arith}
use Rattle.runs.proofs.Room.{side_smaller}
use Rattle.moves.proofs.Bounds.{carries_of, scatter_empty}
use Rattle.moves.proofs.scattering.scatter.Goals as goal

pub returns-then-window : goal.returns-then-window
returns-then-window c = scatter_empty _ _ c.requires.buffers c.if-window.true

pub scatter_by_table-requires : goal.scatter_by_table-requires
scatter_by_table-requires c =
    let small = side_smaller c.requires.side 2048 _ c.fits.ensures c.if-fits.true in
    record { small = omega arith; fits = small.fits; carries = carries_of small c.requires.buffers c.if-window.false }

pub scatter_by_table-requires-else-fits : goal.scatter_by_table-requires-else-fits
scatter_by_table-requires-else-fits c =
    record { small = omega arith; fits = c.requires.side.fits; carries = carries_of c.requires.side c.requires.buffers c.if-window.false }
