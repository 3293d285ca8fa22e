-- `put_layout` meets its contract. Assumes nothing.
use Rattle.lines.proofs.Lines.{put_layout}
use Rattle.words.specs.Texts.{word}
use Rattle.lines.proofs.line.put_layout.Goals as goal

pub returns : goal.returns
unfolding word
returns c = put_layout _ _ _ (rw c.from.ensures at c.put_both.ensures) (rw c.from-2.ensures at c.put_both-2.ensures) c.put_both-3.ensures c.put.ensures
