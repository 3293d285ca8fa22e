-- THE CALLS between the trays of two sheets: `move_tray` and `move_pair`. Assumes nothing: these are definitions.
use Rattle.std.specs.Prelude.{List, [], ℕ, ◌-◌, length}
use Rattle.counting.specs.Gather.{tabulated}
use Rattle.counting.specs.Elements.{Elements}
use Rattle.counting.specs.Trays.{moved, pair_moved}
use Rattle.sheets.specs.Sheet.{read_sheet, Reading}
use Rattle.openings.specs.Said.{done, Outcome, writing}
use Rattle.openings.specs.Refusals.{unless_sheets}
use Rattle.openings.specs.Offsets.{offsets_of, unless_elements}
use Rattle.openings.specs.Buffers.{unless_trays}

-- THE ELEMENTS of a sheet in order, each the test of its file offsets
abbrev pub elements_read : Reading → Elements
elements_read r = tabulated 0 r.layout.elements (offsets_of r)

-- A MOVE: the second sheet's tray holds the window's bytes that the first one's holds, each in its own order
unfoldable pub move_of : (r1 r2 : Reading) → (a b : ℕ) → (t held : List ℕ) → Outcome
move_of r1 r2 a b t held =
    writing (unless_sheets r1 r2 (unless_trays r1 r2 a b (length t) (length held) (done [])))
    held (moved (elements_read r1) (elements_read r2) a (b - a) t)

-- A PAIR MOVE: only the bytes that element i of the first and element j of the second share are written
unfoldable pub pair_move_of : (r1 r2 : Reading) → (i j a b : ℕ) → (t held : List ℕ) → Outcome
pair_move_of r1 r2 i j a b t held =
    writing (unless_elements r1 r2 i j (unless_trays r1 r2 a b (length t) (length held) (done [])))
    held (pair_moved (elements_read r1) (elements_read r2) a (b - a) t i j held)

abbrev pub move_call : (xs ys : List ℕ) → (a b : ℕ) → (t held : List ℕ) → Outcome
move_call xs ys a b t held = move_of (read_sheet xs) (read_sheet ys) a b t held

abbrev pub pair_move_call : (xs ys : List ℕ) → (i j a b : ℕ) → (t held : List ℕ) → Outcome
pair_move_call xs ys i j a b t held = pair_move_of (read_sheet xs) (read_sheet ys) i j a b t held
