use Prim.Native.Nat.{◌-◌}
use Rattle.maps.specs.Selected.{belongs}
use Rattle.moves.proofs.Unpacking.{Unpacking}
use Rattle.moves.proofs.scattering.scatter_runs.Given as goal

abbrev pub invariant-loop-walk : goal.invariant-loop-walk
invariant-loop-walk l =
    Unpacking l.track.subfile.selection (belongs l.track.subfile.selection l.track.subfile.families.now) l.fn.window.start.0 (l.fn.window.end.0 - l.fn.window.start.0) l.packed l.initial.file l.file l.walk

abbrev pub decreases-loop-walk : goal.decreases-loop-walk
decreases-loop-walk l = l.bytes - l.walk.at
