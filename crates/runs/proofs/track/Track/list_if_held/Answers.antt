-- `list_if_held` meets its contract. Assumes nothing.
use Rattle.runs.proofs.Fillings.{listed_all, listed_none}
use Rattle.runs.proofs.track.Track.list_if_held.Goals as goal

pub returns-then-runs-list : goal.returns-then-runs-list
returns-then-runs-list c =
    listed_all _ _ _ _ _ _ _ c.list_runs-runs.ensures c.if-runs-list.true _ _ c.list_runs.ensures

pub returns-else-runs-list : goal.returns-else-runs-list
returns-else-runs-list c = listed_none _ _ _ _ _ _ _ c.list_runs-runs.ensures c.if-runs-list.false
