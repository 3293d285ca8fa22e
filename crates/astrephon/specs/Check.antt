-- THE CALL `check`: what it says of every list of bytes. Assumes nothing: these are definitions.
use Rattle.std.specs.Prelude.{List, [], ◌∷◌, ℕ}
use Rattle.sheets.specs.Sheet.{read_sheet, Reading}
use Rattle.openings.specs.Said.{Said, done}
use Rattle.openings.specs.Refusals.{unless_sheet}

-- the pattern's size, how many elements share it, and the displacement
unfoldable pub check_of : Reading → Said
check_of r = unless_sheet 1 r (done (r.size ∷ r.layout.elements ∷ r.layout.displacement ∷ []))

abbrev pub check_call : List ℕ → Said
check_call xs = check_of (read_sheet xs)
