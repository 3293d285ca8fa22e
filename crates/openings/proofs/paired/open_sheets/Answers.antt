-- `open_sheets` meets its contract. Assumes nothing.
use Rattle.openings.proofs.PairOpens.{first_closed, second_closed, both_opened}
use Rattle.openings.proofs.paired.open_sheets.Goals as goal

pub returns-in-Ok-two : goal.returns-in-Ok-two
returns-in-Ok-two c = both_opened _ _ c.in-Ok.one (rw c.in-Ok.is at c.read-one.ensures) c.in-Ok-two.two (rw c.in-Ok-two.is at c.read-two.ensures)

pub returns-in-Err-two : goal.returns-in-Err-two
returns-in-Err-two c = second_closed _ _ c.in-Ok.one (rw c.in-Ok.is at c.read-one.ensures) c.in-Err-two.refused (rw c.in-Err-two.is at c.read-two.ensures)

pub returns-in-Err : goal.returns-in-Err
returns-in-Err c = first_closed _ _ c.in-Err.refused (rw c.in-Err.is at c.read-one.ensures) _ c.read-two.ensures
