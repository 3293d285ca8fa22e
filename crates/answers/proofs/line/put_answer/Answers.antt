-- `put_answer` meets its contract. Assumes nothing.
use native.Mathlib.Omega.{arith}
use Rattle.words.specs.Texts.{word}
use Rattle.words.proofs.Puts.{put_within}
use Rattle.answers.proofs.Fields.{put_line, put_some}
use Rattle.answers.proofs.line.put_answer.Goals as goal

pub returns-clause-put : goal.returns-clause-put
unfolding word
returns-clause-put c = put_within _ (omega arith) (put_line _ _ c.put_numbers.ensures c.put_buffer.ensures c.put.ensures)

pub returns-clause-some : goal.returns-clause-some
returns-clause-some c = put_some _ c.put.ensures
