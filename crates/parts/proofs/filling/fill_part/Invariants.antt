use Prim.Native.Nat.{◌-◌}
use Rattle.counting.specs.Trays.{in_tray}
use Rattle.maps.specs.Selected.{belongs}
use Rattle.parts.specs.Pieces.{bytes_of, elements_by, takes}
use Rattle.parts.proofs.Renewing.{Renewing}
use Rattle.parts.proofs.filling.fill_part.Given as goal

abbrev pub invariant-loop-walk : goal.invariant-loop-walk
invariant-loop-walk l =
    let L = elements_by l.sources.cycle l.sources.owners.now in
    let a = l.window.start.0 in
    Renewing l.track.subfile.selection (belongs l.track.subfile.selection l.track.subfile.families.now) a (bytes_of l.window) (takes L l.only) (in_tray L a (bytes_of l.window) l.tray) l.initial.part l.part l.walk

abbrev pub decreases-loop-walk : goal.decreases-loop-walk
decreases-loop-walk l = l.bytes - l.walk.at
