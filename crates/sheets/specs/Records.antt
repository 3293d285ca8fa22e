-- The records of a sheet, and what 01's table says of each. A place `at` is a record's start: its length stands there, its kind 2 further on, its
-- body 4 further on. Assumes nothing: these are definitions.
use Rattle.std.specs.Prelude.{Bool, true, ◌&&◌, ◌||◌, not, cond, List, [], ◌∷◌, ◌++◌, ℕ, ◌+◌, ◌-◌, eqb, ltb, leb, length}
use Rattle.families.specs.declared.Family.{Family}
use Rattle.families.specs.Forest.{last_byte}
use Rattle.sheets.specs.declared.records.Limits.{Limits}
use Rattle.sheets.specs.Refusals.{Test, ◌when◌, first_fault, SHORT, KIND, LENGTH, COUNT, MANY, SEGMENT, SPAN, ORDER, DEPTH}
use Rattle.sheets.specs.Bytes.{le16, le32}

abbrev pub HEADER_KIND : ℕ
HEADER_KIND = 1

abbrev pub ELEMENT_KIND : ℕ
ELEMENT_KIND = 2

abbrev pub FAMILY_KIND : ℕ
FAMILY_KIND = 3

-- the length that each kind states: it counts the kind and the body
unfoldable pub length_of : (kind : ℕ) → ℕ
length_of kind = cond (eqb kind HEADER_KIND) 8 (cond (eqb kind ELEMENT_KIND) 4 (cond (eqb kind FAMILY_KIND) 20 0))

-- what is told of a record before its body, where one of the kind is expected
unfoldable pub head_tests : List ℕ → (kind at : ℕ) → List Test
head_tests xs kind at =
    (SHORT when ltb (length xs) (at + 4))
    ∷ (KIND when not (eqb (le16 xs (at + 2)) kind))
    ∷ (LENGTH when not (eqb (le16 xs at) (length_of kind)))
    ∷ (SHORT when ltb (length xs) (at + 2 + length_of kind))
    ∷ []

-- the family of a family record; its span is not known yet
unfoldable pub family_record : List ℕ → (at : ℕ) → Family
family_record xs at = record { l = le32 xs (at + 4); r = le32 xs (at + 8); s = le32 xs (at + 12); n = le32 xs (at + 16); children = le16 xs (at + 20); span = 0 }

-- n = 0, r < l, or the stride rule broken: 0 for one segment, else at least r - l + 1
unfoldable pub bad_segment : Family → Bool
bad_segment f = eqb f.n 0 || (ltb f.r f.l || cond (eqb f.n 1) (not (eqb f.s 0)) (ltb f.s (f.r - f.l + 1)))

abbrev pub last_of : Family → ℕ
last_of f = last_byte f.l f.r f.s f.n

-- a family, where `levels` levels are left, its own among them; its last byte is at most `bound`; its elder sibling's is below `from`; and there
-- is room for `room` families
unfoldable pub family_tests : (levels : ℕ) → Limits → Family → List Test
family_tests levels m f =
    (MANY when eqb m.room 0)
    ∷ (SEGMENT when bad_segment f)
    ∷ (SPAN when ltb m.bound (last_of f))
    ∷ (ORDER when ltb f.l m.from)
    ∷ (DEPTH when leb levels 1 && not (eqb f.children 0))
    ∷ []

-- a header's count of elements, and an element's count of top families
unfoldable pub header_tests : List ℕ → (at : ℕ) → List Test
header_tests xs at = (COUNT when eqb (le16 xs (at + 8)) 0 || ltb 16 (le16 xs (at + 8))) ∷ []

unfoldable pub element_tests : List ℕ → (at : ℕ) → List Test
element_tests xs at = (COUNT when eqb (le16 xs (at + 4)) 0) ∷ []

-- .. and of its body. No unknown kind is ever expected, so the last arm tells of no sheet
unfoldable pub body_tests : (levels : ℕ) → Limits → List ℕ → (kind at : ℕ) → List Test
body_tests levels m xs kind at =
    cond (eqb kind HEADER_KIND) (header_tests xs at)
    (cond (eqb kind ELEMENT_KIND) (element_tests xs at)
    (cond (eqb kind FAMILY_KIND) (family_tests levels m (family_record xs at))
    ((KIND when true) ∷ [])))

-- THE FAULT of the record at `at`, where one of the kind is expected: 01's first number for it, 0 for none
unfoldable pub fault : (levels : ℕ) → Limits → List ℕ → (kind at : ℕ) → ℕ
fault levels m xs kind at = first_fault (head_tests xs kind at ++ body_tests levels m xs kind at)
