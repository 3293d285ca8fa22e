-- `fill` meets its contract. Assumes nothing.
use mathlib.Core.Path.{refl}
use Rattle.runs.proofs.Marked.{fill_some, fill_marks}
use Rattle.runs.proofs.tables.fill.Goals as goal

pub paint-requires-clause-some : goal.paint-requires-clause-some
paint-requires-clause-some c = fill_some c.args.subfile.now.ok c.requires.fits

pub paint-requires-clause-ruled : goal.paint-requires-clause-ruled
paint-requires-clause-ruled c = rw c.siblings.ensures.tree c.requires.fits.ruled

pub returns : goal.returns
returns c = fill_marks c.args.subfile.now.ok c.requires.fits _ _ refl c.requires.zeros (rw c.siblings.ensures.tree at c.paint.ensures)
