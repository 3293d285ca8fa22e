use Prim.Native.Nat.{◌-◌}
use Rattle.runs.proofs.Passing.{Passing}
use Rattle.runs.proofs.track.Track.pass.Given as goal

abbrev pub invariant-loop-walk : goal.invariant-loop-walk
invariant-loop-walk l =
    let t = l.self in
    Passing t.one.selection t.two.selection t.one.table.now t.two.table.now l.wanted t.end.0 l.initial.walk.x.0 l.walk.x.0 l.walk.one l.walk.two

abbrev pub decreases-loop-walk : goal.decreases-loop-walk
decreases-loop-walk l = l.self.end.0 - l.walk.x.0
