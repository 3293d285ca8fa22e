use Rattle.maps.specs.Selected.{elements_of}
use Rattle.parts.specs.Pieces.{bytes_of, elements_by}
use Rattle.trays.proofs.Parting.{Parted}
use Rattle.trays.proofs.filling.fill_parts.Given as goal

abbrev pub invariant-loop-j : goal.invariant-loop-j
invariant-loop-j l =
    Parted (elements_by l.sources.cycle l.sources.owners.now) (elements_of l.targets.pattern.layout.now l.targets.pattern.size) l.window.start.0 (bytes_of l.window) l.tray1 l.initial.tray2 l.only l.initial.j l.j-end l.tray2 l.j
