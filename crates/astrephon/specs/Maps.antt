-- THE CALLS that map offsets between the file and an element's subfile: `exact`, `next`, `inverse` and `span`. Assumes nothing: these are definitions.
use Rattle.std.specs.Prelude.{not, List, [], ◌∷◌, ℕ, leb}
use Rattle.sheets.specs.Refusals.{◌when◌}
use Rattle.sheets.specs.Sheet.{read_sheet, Reading}
use Rattle.openings.specs.Said.{Said, done}
use Rattle.openings.specs.Refusals.{FAR, FOREIGN, unless_fault}
use Rattle.openings.specs.Offsets.{LIMIT, offsets_of, rank_of, place_of, interval_tests, unless_element, unless_offset}

-- EXACT MAPPING: the rank of an offset of the element
unfoldable pub exact_of : Reading → (e x : ℕ) → Said
exact_of r e x = unless_offset r e x (unless_fault ((FOREIGN when not (offsets_of r e x)) ∷ []) (done (rank_of r e x ∷ [])))

-- NEXT MAPPING: the rank of any offset, which is the subfile offset of the element's next byte
unfoldable pub next_of : Reading → (e x : ℕ) → Said
next_of r e x = unless_offset r e x (done (rank_of r e x ∷ []))

-- INVERSE MAPPING: the file offset of byte y of the subfile
unfoldable pub inverse_of : Reading → (e y : ℕ) → Said
inverse_of r e y = unless_element r e (unless_fault ((FAR when leb LIMIT (place_of r e y)) ∷ []) (done (place_of r e y ∷ [])))

-- THE SPAN of an interval, both ends meant: from the rank of a to the rank of z
unfoldable pub span_of : Reading → (e a z : ℕ) → Said
span_of r e a z = unless_element r e (unless_fault (interval_tests r.layout.displacement a z) (done (rank_of r e a ∷ rank_of r e z ∷ [])))

abbrev pub exact_call : List ℕ → (e x : ℕ) → Said
exact_call xs e x = exact_of (read_sheet xs) e x

abbrev pub next_call : List ℕ → (e x : ℕ) → Said
next_call xs e x = next_of (read_sheet xs) e x

abbrev pub inverse_call : List ℕ → (e y : ℕ) → Said
inverse_call xs e y = inverse_of (read_sheet xs) e y

abbrev pub span_call : List ℕ → (e a z : ℕ) → Said
span_call xs e a z = span_of (read_sheet xs) e a z
