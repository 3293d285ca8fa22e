-- `put_hex` meets its contract. Assumes nothing.
use native.Mathlib.Omega.{arith}
use Rattle.answers.proofs.Hexes.{put_digits}
use Rattle.answers.proofs.line.put_hex.Goals as goal

pub returns : goal.returns
returns c = put_digits c.args.bytes.now c.args.text.now c.requires (omega arith) c.write_hex.ensures
