-- The refusals of the calls: a sheet's, and 01's numbers from 12 on; and how a call goes on where there is none. Assumes nothing: these are definitions.
use Rattle.std.specs.Prelude.{cond, List, ℕ, eqb}
use Rattle.sheets.specs.Sheet.{Reading}
use Rattle.sheets.specs.Refusals.{Test, first_fault, NO_FLAG, fault_number, fault_flag}
use Rattle.openings.specs.declared.Which.{Which}
use Rattle.openings.specs.declared.Which.TheVariants.{First, Second}
use Rattle.openings.specs.declared.Refusal.{Refusal}
use Rattle.openings.specs.declared.Refusal.TheVariants.{Sheet, Element, Before, Far, Window, Foreign, Buffer, Room}
use Rattle.openings.specs.declared.RefusedSheets.{RefusedSheets}
use Rattle.openings.specs.declared.RefusedSheets.TheVariants as refused_sheets
use Rattle.openings.specs.Said.{Said, refused}

abbrev pub ELEMENT : ℕ
ELEMENT = 12

abbrev pub BEFORE : ℕ
BEFORE = 13

abbrev pub FAR : ℕ
FAR = 14

abbrev pub WINDOW : ℕ
WINDOW = 15

abbrev pub FOREIGN : ℕ
FOREIGN = 16

abbrev pub BUFFER : ℕ
BUFFER = 17

abbrev pub ROOM : ℕ
ROOM = 18

-- the sheets of a call by number
abbrev pub sheet_number : Which → ℕ
sheet_number First = 1
sheet_number Second = 2

-- WHAT A REFUSAL TELLS: its number, the sheet at fault (0 is none), the place, and the flag of number 11
pub record Told : Type 0 where
  pub number : ℕ
  pub sheet : ℕ
  pub place : ℕ
  pub flag : ℕ

-- the numbers from 12 on blame no sheet
abbrev pub call_told : (number place : ℕ) → Told
call_told number place = record { number = number; sheet = 0; place = place; flag = NO_FLAG }

abbrev pub told : Refusal → Told
told (Sheet k f) = record { number = fault_number f.fault; sheet = sheet_number k; place = f.place; flag = fault_flag f.fault }
told Element = call_told ELEMENT 0
told Before = call_told BEFORE 0
told Far = call_told FAR 0
told Window = call_told WINDOW 0
told Foreign = call_told FOREIGN 0
told Buffer = call_told BUFFER 0
told (Room n) = call_told ROOM n

-- two sheets that are not both accepted: the first that is refused is blamed
abbrev pub blamed : RefusedSheets → Refusal
blamed (refused_sheets.First f two) = Sheet First f
blamed (refused_sheets.Second one f) = Sheet Second f

abbrev pub refusal_says : Refusal → Said
refusal_says f = let t = told f in refused t.number t.sheet t.place t.flag

-- what a call says: `next`, unless the k-th sheet is refused
unfoldable pub unless_sheet : (k : ℕ) → Reading → (next : Said) → Said
unless_sheet k r next = cond (eqb r.number 0) next (refused r.number k r.place r.flag)

-- .. unless one of two is, the first before the second
abbrev pub unless_sheets : (r1 r2 : Reading) → (next : Said) → Said
unless_sheets r1 r2 next = unless_sheet 1 r1 (unless_sheet 2 r2 next)

-- `next`, unless there is a fault: the first is refused
unfoldable pub unless_fault : List Test → (next : Said) → Said
unless_fault tests next = let number = first_fault tests in cond (eqb number 0) next (refused number 0 0 NO_FLAG)
