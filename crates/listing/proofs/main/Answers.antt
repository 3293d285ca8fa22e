-- `main` is safe and ends: what the call says it wrote fits the buffer. Assumes nothing.
use mathlib.Core.Path.{sym}
use lib.Seq.{length-take-le}
use Rattle.astrephon.proofs.Texts.{written_fits}
use Rattle.listing.proofs.main.Goals as goal

pub slice_bounds-text-end : goal.slice_bounds-text-end
slice_bounds-text-end c = let said = c.in-Ok.ensures in written_fits _ _ said.says said.leaves

pub slice_bounds-write_all-end : goal.slice_bounds-write_all-end
slice_bounds-write_all-end c = let said = c.in-Ok.ensures in sym (length-take-le _ _ (written_fits _ _ said.says said.leaves))
