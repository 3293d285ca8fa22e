-- `exact` meets its contract. Assumes nothing.
use Rattle.openings.proofs.Opens.{lent, opened_offset}
use Rattle.astrephon.proofs.Mappings.{exact_foreign, exact_at}
use Rattle.astrephon.proofs.mapping.exact.Goals as goal

pub returns-then-not-has : goal.returns-then-not-has
returns-then-not-has c =
    let O = c.in_ok-opening.ensures in
    let S = c.subfile-subfile.ensures in
    let K = opened_offset _ _ O.1 _ O.0 in
    exact_foreign (lent c.in_ok-opening.opening S.selection S.families K.0, K.1) _ c.has.ensures c.if-not-has.true

pub returns : goal.returns
returns c =
    let O = c.in_ok-opening.ensures in
    let S = c.subfile-subfile.ensures in
    let K = opened_offset _ _ O.1 _ O.0 in
    exact_at (lent c.in_ok-opening.opening S.selection S.families K.0, K.1) _ c.has.ensures _ c.rank.ensures c.if-not-has.false
