-- `fill_ranks` meets its contract. The loop's invariant: how often each owner was met, and the ranks of the places behind. Assumes nothing.
use native.Mathlib.Omega.{arith}
use Prim.Native.Nat.{◌<◌}
use lib.Seq.{length-take-le}
use Rattle.trays.proofs.Ranking.{Rankable, ranking_start, ranking_asks, ranking_end, ranking_next}
use Rattle.trays.proofs.tables.fill_ranks.Goals as goal
use Rattle.trays.proofs.tables.fill_ranks.Goals.{After-from-owner}

-- the place is one of the period
inside : (c : After-from-owner) → c.loop-place.place < c.args.period
inside c = omega (arith, c.loop-place-test.true, length-take-le c.args.period c.args.ranks.now c.requires.room)

-- what the code asks to rank it
asks : (c : After-from-owner) → Rankable c.args.owners.now c.loop-place.counts c.loop-place.rank-items c.loop-place.place
asks c = ranking_asks c.loop-place.invariant (inside c)

pub loop-place-init : goal.loop-place-init
loop-place-init c = ranking_start c.requires

pub overflow_cast-rank : goal.overflow_cast-rank
overflow_cast-rank c = rw c.from-owner.ensures (omega (arith, (asks c).small))

pub overflow_add-counts : goal.overflow_add-counts
overflow_add-counts c = rw c.from-owner.ensures (omega (arith, (asks c).small))

pub loop-place-preserved : goal.loop-place-preserved
loop-place-preserved c = rw c.from-owner.ensures (ranking_next c.loop-place.invariant (inside c))

pub returns : goal.returns
returns c =
    ranking_end c.loop-place.invariant _ (omega (arith, c.loop-place-test.false, length-take-le c.args.period c.args.ranks.now c.requires.room))
