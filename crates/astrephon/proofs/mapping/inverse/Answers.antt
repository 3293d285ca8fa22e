-- `inverse` meets its contract. Assumes nothing.
use native.Mathlib.Omega.{arith}
use Rattle.openings.proofs.Opens.{lent, opened}
use Rattle.astrephon.proofs.Mappings.{inverse_past, inverse_beyond, inverse_at}
use Rattle.astrephon.proofs.mapping.inverse.Goals as goal

pub returns-then-byte-ge-LIMIT : goal.returns-then-byte-ge-LIMIT
returns-then-byte-ge-LIMIT c = let O = c.in_ok-opening.ensures in inverse_past (opened _ _ O.1 O.0) _ (omega (arith, c.if-byte-ge-LIMIT.true))

pub returns-then-place-ge-LIMIT : goal.returns-then-place-ge-LIMIT
returns-then-place-ge-LIMIT c =
    let O = c.in_ok-opening.ensures in
    let S = c.subfile.ensures in
    inverse_beyond (lent c.in_ok-opening.opening S.selection S.families (opened _ _ O.1 O.0)) c.args.y.0 _ _ c.byte-place.ensures (omega arith) c.if-place-ge-LIMIT.true

pub returns : goal.returns
returns c =
    let O = c.in_ok-opening.ensures in
    let S = c.subfile.ensures in
    inverse_at (lent c.in_ok-opening.opening S.selection S.families (opened _ _ O.1 O.0)) _ _ c.byte-place.ensures c.if-place-ge-LIMIT.false
