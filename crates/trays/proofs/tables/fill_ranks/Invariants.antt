use Rattle.trays.proofs.Ranking.{Ranking}
use Rattle.trays.proofs.tables.fill_ranks.Given as goal

abbrev pub invariant-loop-place : goal.invariant-loop-place
invariant-loop-place l = Ranking l.owners l.period l.fn.ranks l.counts l.rank-items l.place
