-- 01'S TABLE OF REFUSALS: what a refusal can say. Assumes nothing: these are definitions.
use Rattle.std.specs.Prelude.{◌≡◌, Bool, true, false, ◌&&◌, ◌||◌, List, [], ◌∷◌, ◌++◌, map, ℕ, eqb}
use Rattle.sheets.specs.Refusals.{one_of, record_numbers, HOLE_OR_OVERLAP, NO_FLAG, HOLE, OVERLAP}
use Rattle.openings.specs.Said.{Said, done, refused}
use Rattle.openings.specs.Refusals.{ELEMENT, BEFORE, FAR, WINDOW, FOREIGN, BUFFER, ROOM}

-- a row: a number, the sheets that it can blame (0 is none), whether it names a place (which is 0 elsewhere), and the flags that it can carry
pub record Row : Type 0 where
  pub number : ℕ
  pub sheets : List ℕ
  pub placed : Bool
  pub flags : List ℕ

-- a call has one sheet or two
abbrev pub sheets_given : List ℕ
sheets_given = 1 ∷ 2 ∷ []

-- the numbers that refuse a sheet at a place in it; number 11; those that refuse what else a call is given; and ROOM, whose place is how many runs there are
abbrev pub record_row : (number : ℕ) → Row
record_row number = record { number = number; sheets = sheets_given; placed = true; flags = NO_FLAG ∷ [] }

abbrev pub uneven_row : Row
uneven_row = record { number = HOLE_OR_OVERLAP; sheets = sheets_given; placed = true; flags = HOLE ∷ OVERLAP ∷ [] }

abbrev pub call_row : (number : ℕ) → Row
call_row number = record { number = number; sheets = 0 ∷ []; placed = false; flags = NO_FLAG ∷ [] }

abbrev pub room_row : Row
room_row = record { number = ROOM; sheets = 0 ∷ []; placed = true; flags = NO_FLAG ∷ [] }

abbrev pub call_numbers : List ℕ
call_numbers = ELEMENT ∷ BEFORE ∷ FAR ∷ WINDOW ∷ FOREIGN ∷ BUFFER ∷ []

-- THE TABLE. Whatever brings a new refusal adds its row
abbrev pub table : List Row
table = (map record_row record_numbers ++ (uneven_row ∷ [])) ++ (map call_row call_numbers ++ (room_row ∷ []))

-- whether a refusal is of a row, and of one of some rows
abbrev pub of_row : Row → (number sheet place flag : ℕ) → Bool
of_row row number sheet place flag = eqb number row.number && (one_of sheet row.sheets && ((row.placed || eqb place 0) && one_of flag row.flags))

unfoldable pub of_rows : List Row → (number sheet place flag : ℕ) → Bool
of_rows [] number sheet place flag = false
of_rows (row ∷ rows) number sheet place flag = of_row row number sheet place flag || of_rows rows number sheet place flag

-- WHAT A CALL MAY SAY: that it did its work, or a refusal of the table
unfoldable pub OfTable : Said → Type 0
OfTable (done values) = Unit {0}
OfTable (refused number sheet place flag) = of_rows table number sheet place flag ≡ true
