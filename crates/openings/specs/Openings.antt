-- How the calls open an element, an element of each of two sheets, or two sheets: what is opened, or the first refusal. Assumes nothing: these are definitions.
use Rattle.std.specs.Prelude.{◌≡◌, Result, Ok, Err, ℕ}
use Rattle.sheets.specs.Sheet.{Reading}
use Rattle.sheets.specs.Answered.{reading_of}
use Rattle.sheets.specs.declared.Sheet.{Sheet}
use Rattle.maps.specs.Selected.{selection_of}
use Rattle.openings.specs.declared.Refusal.{Refusal}
use Rattle.openings.specs.declared.Opening.{Opening}
use Rattle.openings.specs.declared.Pair.{Pair}
use Rattle.openings.specs.declared.Sheets.{Sheets}
use Rattle.openings.specs.declared.RefusedSheets.{RefusedSheets}
use Rattle.openings.specs.declared.RefusedSheets.TheVariants as refused_sheets
use Rattle.openings.specs.Said.{Said}
use Rattle.openings.specs.Refusals.{refusal_says, blamed, unless_sheet, unless_sheets}
use Rattle.openings.specs.Offsets.{unless_windows}

-- A CALL'S CHECKS pass: it says what it would say next; or they refuse with f: whatever it would say next, it says that
abbrev pub Passes : (checks : Said → Said) → Type 0
Passes checks = (next : Said) → next ≡ checks next

abbrev pub Refuses : (checks : Said → Said) → Refusal → Type 0
Refuses checks f = (next : Said) → refusal_says f ≡ checks next

-- THE VERDICT of the checks, of an answer whose value is left open
abbrev pub Verdict : {A : Type 0} → (checks : Said → Said) → Result A Refusal → Type 0
Verdict checks (Ok given) = Passes checks
Verdict checks (Err f) = Refuses checks f

-- the reading that an accepted sheet is
abbrev pub accepted_as : Sheet → Reading
accepted_as s = reading_of (Ok s)

-- the k-th sheet of a call is read
abbrev pub Reads : (k : ℕ) → (r : Reading) → Result Sheet Refusal → Type 0
Reads k r (Ok s) = Passes (unless_sheet k r) × (accepted_as s ≡ r)
Reads k r (Err f) = Refuses (unless_sheet k r) f

-- what element e selects, of the sheet's families
pub record Chosen (r : Reading) (e : ℕ) (o : Opening) : Type 0 where
  pub selection : o.selection ≡ selection_of r.layout r.size e
  pub layout : o.layout ≡ r.layout

-- AN ELEMENT is opened after some checks
abbrev pub Opens : (checks : Said → Said) → (r : Reading) → (e : ℕ) → Result Opening Refusal → Type 0
Opens checks r e (Ok o) = Passes checks × Chosen r e o
Opens checks r e (Err f) = Refuses checks f

-- ONE OF EACH SHEET, for a window
abbrev pub OpensPair : (r1 r2 : Reading) → (i j a b : ℕ) → Result Pair Refusal → Type 0
OpensPair r1 r2 i j a b (Ok o) = Passes (unless_windows r1 r2 i j a b) × (Chosen r1 i o.one × Chosen r2 j o.two)
OpensPair r1 r2 i j a b (Err f) = Refuses (unless_windows r1 r2 i j a b) f

-- what each of two sheets that are not both accepted was read as
abbrev pub first_read : RefusedSheets → Reading
first_read (refused_sheets.First f two) = reading_of (Err f)
first_read (refused_sheets.Second one f) = reading_of (Ok one)

abbrev pub second_read : RefusedSheets → Reading
second_read (refused_sheets.First f two) = reading_of two
second_read (refused_sheets.Second one f) = reading_of (Err f)

-- TWO SHEETS, with the readings of both whatever the verdict
abbrev pub OpensSheets : (r1 r2 : Reading) → Result Sheets RefusedSheets → Type 0
OpensSheets r1 r2 (Ok o) = Passes (unless_sheets r1 r2) × ((accepted_as o.one ≡ r1) × (accepted_as o.two ≡ r2))
OpensSheets r1 r2 (Err o) = Refuses (unless_sheets r1 r2) (blamed o) × ((first_read o ≡ r1) × (second_read o ≡ r2))
