-- `open_pair` meets its contract. Assumes nothing.
use Rattle.openings.proofs.Verdicts.{passes_none}
use Rattle.openings.proofs.Faults.{pair_known}
use Rattle.openings.proofs.PairOpens.{first_shares, second_shares}
use Rattle.openings.proofs.paired.open_pair.Goals as goal

pub choose-requires-clause-shared : goal.choose-requires-clause-shared
choose-requires-clause-shared c = first_shares _ _ c.in_ok-both.ensures

pub choose-requires-clause-there : goal.choose-requires-clause-there
choose-requires-clause-there c = let o = c.in_ok-both.both in (pair_known o.one.layout.elements c.args.i o.two.layout.elements c.args.j (passes_none _ c.in_ok-check_pair.ensures)).0

pub choose-requires-2-clause-shared : goal.choose-requires-2-clause-shared
choose-requires-2-clause-shared c = second_shares _ _ c.in_ok-both.ensures

pub choose-requires-2-clause-there : goal.choose-requires-2-clause-there
choose-requires-2-clause-there c = let o = c.in_ok-both.both in (pair_known o.one.layout.elements c.args.i o.two.layout.elements c.args.j (passes_none _ c.in_ok-check_pair.ensures)).1
