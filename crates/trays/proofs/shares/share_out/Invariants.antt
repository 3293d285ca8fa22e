use Rattle.maps.specs.Selected.{elements_of}
use Rattle.parts.specs.Pieces.{bytes_of}
use Rattle.trays.proofs.Allotting.{Allotted}
use Rattle.trays.proofs.shares.share_out.Given as goal

abbrev pub invariant-loop-e : goal.invariant-loop-e
invariant-loop-e l =
    let t = l.pattern.layout.now in
    let size = l.pattern.size in
    Allotted (elements_of t size) t.displacement size l.window.start.0 (bytes_of l.window) l.initial.shares l.shares l.e l.at
