use Prim.Native.Nat.{◌-◌}
use Rattle.counting.specs.Gather.{in_file}
use Rattle.maps.specs.Selected.{belongs}
use Rattle.moves.proofs.Packing.{Packing}
use Rattle.moves.proofs.gathering.gather_runs.Given as goal

abbrev pub invariant-loop-walk : goal.invariant-loop-walk
invariant-loop-walk l =
    Packing l.track.subfile.selection (belongs l.track.subfile.selection l.track.subfile.families.now) l.fn.window.start.0 (l.fn.window.end.0 - l.fn.window.start.0) (in_file l.fn.window.start.0 l.file) l.initial.packed l.packed l.walk

abbrev pub decreases-loop-walk : goal.decreases-loop-walk
decreases-loop-walk l = l.bytes - l.walk.at
