-- `put_field` meets its contract. Assumes nothing.
use Rattle.words.specs.Texts.{word}
use Rattle.answers.proofs.Fields.{put_field}
use Rattle.answers.proofs.line.put_field.Goals as goal

pub returns : goal.returns
unfolding word
returns c = put_field _ c.put_number.ensures c.put.ensures
