-- `put_sheet` meets its contract. Assumes nothing.
use Rattle.lines.proofs.Lines.{listed_accepted, listed_refused, listable}
use Rattle.lines.proofs.listing.put_sheet.Goals as goal

pub returns-in-Err : goal.returns-in-Err
returns-in-Err c = listed_refused _ _ c.in-Err.ensures c.put_refusal.ensures

pub put_accepted-requires-clause-listable : goal.put_accepted-requires-clause-listable
put_accepted-requires-clause-listable c = listable _ _ c.in-Ok.ensures

pub returns-in-Ok : goal.returns-in-Ok
returns-in-Ok c = listed_accepted _ _ c.in-Ok.ensures c.put_accepted.ensures
