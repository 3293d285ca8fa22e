-- The file offsets of an element, and what the calls check of offsets. Assumes nothing: these are definitions.
use Rattle.std.specs.Prelude.{Bool, List, [], ◌∷◌, ℕ, ◌-◌, ◌^◌, max, ltb, leb}
use Rattle.counting.specs.Count.{count_below, nth}
use Rattle.counting.specs.Periodic.{owns}
use Rattle.families.specs.Forest.{has}
use Rattle.families.specs.Decoded.{tree_of}
use Rattle.sheets.specs.Sheet.{Reading}
use Rattle.sheets.specs.Refusals.{Test, ◌when◌}
use Rattle.openings.specs.Said.{Said}
use Rattle.openings.specs.Refusals.{ELEMENT, BEFORE, FAR, WINDOW, unless_sheet, unless_sheets, unless_fault}

-- file offsets are below this
abbrev pub LIMIT : ℕ
LIMIT = 2 ^ 40

-- THE FILE OFFSETS of element e: from the displacement on, those whose place in the pattern the element's families select
unfoldable pub offsets_of : Reading → (e : ℕ) → ℕ → Bool
offsets_of r e x = owns r.layout.displacement r.size (has (tree_of 4 r.layout e)) x

-- THE RANK of x: how many file offsets below x are the element's
abbrev pub rank_of : Reading → (e x : ℕ) → ℕ
rank_of r e x = count_below (offsets_of r e) x

-- the file offset of byte y of the subfile, and the limit where it has none below that
abbrev pub place_of : Reading → (e y : ℕ) → ℕ
place_of r e y = nth (offsets_of r e) LIMIT y

-- ---- what is checked: the index of an element, where a sheet has n of them
abbrev pub element_test : (n e : ℕ) → Test
element_test n e = ELEMENT when leb n e

-- .. and the indexes of a pair, where the sheets have m and n
abbrev pub pair_tests : (m i n j : ℕ) → List Test
pair_tests m i n j = element_test m i ∷ element_test n j ∷ []

-- in a call on one element, after its sheet; and in one on an element of each of two sheets, after both
abbrev pub unless_element : Reading → (e : ℕ) → (next : Said) → Said
unless_element r e next = unless_sheet 1 r (unless_fault (element_test r.layout.elements e ∷ []) next)

abbrev pub unless_elements : (r1 r2 : Reading) → (i j : ℕ) → (next : Said) → Said
unless_elements r1 r2 i j next = unless_sheets r1 r2 (unless_fault (pair_tests r1.layout.elements i r2.layout.elements j) next)

-- a file offset, where the displacement is d
abbrev pub offset_tests : (d x : ℕ) → List Test
offset_tests d x = (BEFORE when ltb x d) ∷ (FAR when leb LIMIT x) ∷ []

-- from a to b, where b is at most `most`: the last offset for an interval, whose ends are both offsets; the limit for a window, to which b does not belong
abbrev pub range_tests : (most d a b : ℕ) → List Test
range_tests most d a b = (WINDOW when ltb b a) ∷ (BEFORE when ltb a d) ∷ (FAR when ltb most b) ∷ []

abbrev pub interval_tests : (d a z : ℕ) → List Test
interval_tests d a z = range_tests (LIMIT - 1) d a z

abbrev pub window_tests : (d a b : ℕ) → List Test
window_tests d a b = range_tests LIMIT d a b

-- where both of two sheets have started: the larger displacement
abbrev pub both_from : (r1 r2 : Reading) → ℕ
both_from r1 r2 = max r1.layout.displacement r2.layout.displacement

-- an element and a file offset; an element and a window; and an element of each of two sheets and a window of both
abbrev pub unless_offset : Reading → (e x : ℕ) → (next : Said) → Said
unless_offset r e x next = unless_element r e (unless_fault (offset_tests r.layout.displacement x) next)

abbrev pub unless_window : Reading → (e a b : ℕ) → (next : Said) → Said
unless_window r e a b next = unless_element r e (unless_fault (window_tests r.layout.displacement a b) next)

abbrev pub unless_windows : (r1 r2 : Reading) → (i j a b : ℕ) → (next : Said) → Said
unless_windows r1 r2 i j a b next = unless_elements r1 r2 i j (unless_fault (window_tests (both_from r1 r2) a b) next)
