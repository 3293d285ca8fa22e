-- `begin` meets its contract: the first byte from a on has its rank. Assumes nothing.
use native.Mathlib.Omega.{arith}
use Rattle.maps.proofs.Mapped.{period_some}
use Rattle.moves.proofs.Beginnings.{rank_near, byte_after, begun}
use Rattle.moves.proofs.walks.begin.Goals as goal

pub byte-byte-requires : goal.byte-byte-requires
byte-byte-requires c = rank_near _ _ _ c.rank.ensures c.requires.near

pub overflow_sub-past : goal.overflow_sub-past
overflow_sub-past c =
    omega (arith, byte_after _ _ _ _ c.rank.ensures c.byte-byte.ensures, c.requires.after)

pub overflow_sub-result : goal.overflow_sub-result
overflow_sub-result c = byte_after _ _ _ _ c.rank.ensures c.byte-byte.ensures

pub nonzero_rem-result : goal.nonzero_rem-result
nonzero_rem-result c = rw c.from-period.ensures (period_some c.args.subfile.now.ok)

pub returns : goal.returns
returns c =
    rw (c.from-from.ensures, c.from-period.ensures) (begun _ _ _ _ c.rank.ensures c.byte-byte.ensures _ c.requires.after)
