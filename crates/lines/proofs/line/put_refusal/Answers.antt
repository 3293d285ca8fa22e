-- `put_refusal` meets its contract. Assumes nothing.
use Rattle.lines.proofs.Lines.{put_refusal}
use Rattle.words.specs.Texts.{word}
use Rattle.lines.proofs.line.put_refusal.Goals as goal

pub returns : goal.returns
unfolding word
returns c = put_refusal _ _ _ (rw (c.from.ensures, c.number.ensures) at c.put_both.ensures) c.put_both-2.ensures c.put_flag.ensures c.put.ensures
