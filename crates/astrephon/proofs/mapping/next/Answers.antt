-- `next` meets its contract. Assumes nothing.
use Rattle.openings.proofs.Opens.{lent, opened_offset}
use Rattle.astrephon.proofs.Mappings.{next_at}
use Rattle.astrephon.proofs.mapping.next.Goals as goal

pub returns : goal.returns
returns c =
    let O = c.in_ok-opening.ensures in
    let S = c.subfile.ensures in
    let K = opened_offset _ _ O.1 _ O.0 in
    next_at (lent c.in_ok-opening.opening S.selection S.families K.0, K.1) _ c.rank.ensures
