-- `put_both` meets its contract. Assumes nothing.
use Rattle.words.proofs.Puts.{◌then◌}
use Rattle.words.proofs.Text.put_both.Goals as goal

pub returns : goal.returns
returns c = c.put.ensures then c.put_number.ensures
