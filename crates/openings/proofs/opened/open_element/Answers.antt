-- `open_element` meets its contract. Assumes nothing.
use Rattle.openings.proofs.Verdicts.{passes_none}
use Rattle.openings.proofs.Faults.{element_known}
use Rattle.openings.proofs.Opens.{read_shares}
use Rattle.openings.proofs.opened.open_element.Goals as goal

pub choose-requires-clause-shared : goal.choose-requires-clause-shared
choose-requires-clause-shared c = read_shares c.args.sheet.now 1 _ c.in_ok-accepted.ensures

pub choose-requires-clause-there : goal.choose-requires-clause-there
choose-requires-clause-there c = element_known _ _ (passes_none _ c.in_ok-check_element.ensures)
