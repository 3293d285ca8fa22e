-- `side_at` meets its contract. Assumes nothing.
use Rattle.maps.proofs.Mapped.{period_some}
use Rattle.runs.proofs.tables.side_at.Goals as goal

pub nonzero_rem-result : goal.nonzero_rem-result
nonzero_rem-result c = rw c.from-2.ensures (period_some c.args.subfile.now.ok)
