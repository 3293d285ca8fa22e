-- `put_element` meets its contract. Assumes nothing.
use Rattle.lines.proofs.Lines.{put_element}
use Rattle.words.specs.Texts.{word}
use Rattle.lines.proofs.line.put_element.Goals as goal

pub returns : goal.returns
unfolding word
returns c = put_element _ _ _ _ c.put_number.ensures c.put_both.ensures (rw c.from.ensures at c.put_both-2.ensures) (rw c.from-2.ensures at c.put_both-3.ensures) c.put.ensures
