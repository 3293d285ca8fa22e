-- `choose` meets its contract. Assumes nothing.
use Rattle.maps.proofs.Chosen.{selection_ok}
use Rattle.openings.proofs.opened.choose.Goals as goal

pub invariant_of-result : goal.invariant_of-result
invariant_of-result c =
    let a = c.args in
    record { ok = rw c.selection_of-selection.ensures (selection_ok a.sheet.layout a.sheet.size c.requires.shared a.element c.requires.there) }
