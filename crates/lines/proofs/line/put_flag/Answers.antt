-- `put_flag` meets its contract. Assumes nothing.
use mathlib.Core.Path.{refl}
use Rattle.sheets.proofs.Answered.{other_flag}
use Rattle.lines.proofs.Lines.{put_hole, put_overlap, put_no_flag}
use Rattle.words.specs.Texts.{word}
use Rattle.lines.proofs.line.put_flag.Goals as goal

pub returns-in-Hole : goal.returns-in-Hole
unfolding word
returns-in-Hole c = rw c.in-Hole.is (put_hole _ refl c.put.ensures)

pub returns-in-Overlap : goal.returns-in-Overlap
unfolding word
returns-in-Overlap c = rw c.in-Overlap.is (put_overlap _ refl c.put-in-Overlap.ensures)

pub returns-in_default : goal.returns-in_default
returns-in_default c = rw (other_flag _ c.in_default.not-Hole c.in_default.not-Overlap) (put_no_flag _)
