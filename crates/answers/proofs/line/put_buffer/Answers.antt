-- `put_buffer` meets its contract. Assumes nothing.
use mathlib.Core.Path.{sym}
use borrow.Author.Tests.{eqb-true, eqb-false}
use Rattle.words.specs.Texts.{word}
use Rattle.answers.proofs.Hexes.{put_dash, put_full}
use Rattle.answers.proofs.line.put_buffer.Goals as goal

pub returns-then-is_empty : goal.returns-then-is_empty
unfolding word
returns-then-is_empty c = put_dash _ (eqb-true _ 0 (sym c.if-is_empty.ensures)) c.put.ensures

pub returns-else-is_empty : goal.returns-else-is_empty
returns-else-is_empty c = put_full _ (eqb-false _ 0 (sym c.if-is_empty.ensures)) c.put_hex.ensures
