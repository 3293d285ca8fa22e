-- `subfile_of` makes a subfile: an element of a pattern that is shared out is a selection that the code takes. Assumes nothing.
use native.Mathlib.Omega.{arith}
use Rattle.maps.proofs.Chosen.{selection_ok}
use Rattle.maps.proofs.mapping.subfile_of.Goals as goal

pub invariant_of-result : goal.invariant_of-result
invariant_of-result c = record { ok = rw c.selection_of.ensures (selection_ok _ _ c.requires.shared _ (omega arith)) }
