-- `write_hex` meets its contract: after i turns, i bytes are written. Assumes nothing.
use Rattle.answers.proofs.Hexes.{spelled_none, spelled_more, spelled_all}
use Rattle.answers.proofs.line.write_hex.Goals as goal

pub loop-i-init : goal.loop-i-init
loop-i-init c = spelled_none

pub loop-i-preserved : goal.loop-i-preserved
loop-i-preserved c = spelled_more c.loop-i.invariant c.requires c.loop-i-test.true c.hex_digit.ensures c.hex_digit-in-loop-i.ensures

pub returns : goal.returns
returns c = spelled_all c.loop-i.invariant c.requires c.loop-i-test.false
