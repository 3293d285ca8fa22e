-- The lengths of the buffers that a call is lent, and what the calls check of them. Assumes nothing: these are definitions.
use Rattle.std.specs.Prelude.{not, List, [], ◌∷◌, ◌++◌, ℕ, ◌-◌, eqb}
use Rattle.sheets.specs.Sheet.{Reading}
use Rattle.sheets.specs.Refusals.{Test, ◌when◌}
use Rattle.openings.specs.Said.{Said}
use Rattle.openings.specs.Refusals.{BUFFER, unless_fault}
use Rattle.openings.specs.Offsets.{rank_of, window_tests, both_from, unless_window}

-- THE PACKED LENGTH: how many bytes of the window are the element's
abbrev pub packed_length : Reading → (e a b : ℕ) → ℕ
packed_length r e a b = rank_of r e b - rank_of r e a

-- the lengths of two buffers, each with the one that is due
abbrev pub buffer_tests : (one due1 two due2 : ℕ) → List Test
buffer_tests one due1 two due2 = (BUFFER when not (eqb one due1)) ∷ (BUFFER when not (eqb two due2)) ∷ []

-- an element, a window, a file buffer of `file` bytes and a packed one of `packed`
abbrev pub unless_buffers : Reading → (e a b file packed : ℕ) → (next : Said) → Said
unless_buffers r e a b file packed next = unless_window r e a b (unless_fault (buffer_tests file (b - a) packed (packed_length r e a b)) next)

-- a window that starts at d or later, and the lengths of two trays of it; and such a window of two sheets
abbrev pub tray_tests : (d a b one two : ℕ) → List Test
tray_tests d a b one two = window_tests d a b ++ buffer_tests one (b - a) two (b - a)

abbrev pub unless_trays : (r1 r2 : Reading) → (a b one two : ℕ) → (next : Said) → Said
unless_trays r1 r2 a b one two next = unless_fault (tray_tests (both_from r1 r2) a b one two) next
