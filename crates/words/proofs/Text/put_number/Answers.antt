-- `put_number` meets its contract. Assumes nothing.
use Rattle.std.proofs.Common.{◌∙◌}
use native.Mathlib.Omega.{arith}
use Rattle.words.proofs.Puts.{put_printed}
use Rattle.words.proofs.Text.put_number.Goals as goal

pub put-requires : goal.put-requires
put-requires c = rw c.as_bytes.ensures.value (omega (arith, c.format.ensures.fits, c.requires))

pub returns : goal.returns
returns c =
    put_printed c.args.n c.ranges.n.fits
    (rw (c.as_bytes.ensures.value ∙ c.format.ensures.text) at c.put.ensures)
