use Prim.Native.Nat.{◌-◌}
use Rattle.runs.specs.Walking.{tabled, Walks}
use Rattle.runs.proofs.Handing.{Handing}
use Rattle.runs.proofs.track.Track.list_runs.Given as goal

abbrev pub invariant-loop-at : goal.invariant-loop-at
invariant-loop-at l =
    let t = l.self in
    let one = t.one in
    let two = t.two in
    Walks one.selection two.selection one.table.now two.table.now l.at × Handing (tabled one.selection one.table.now) (tabled two.selection two.table.now) t.end.0 l.initial.list l.initial.at.x.0 l.list l.runs l.at.x.0

abbrev pub decreases-loop-at : goal.decreases-loop-at
decreases-loop-at l = l.self.end.0 - l.at.x.0
