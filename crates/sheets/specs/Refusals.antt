-- The refusals of a sheet: 01's table, in its order. Assumes nothing: these are definitions.
use Rattle.std.specs.Prelude.{Bool, false, ◌||◌, cond, List, [], ◌∷◌, ℕ, zero, suc, eqb}
use Rattle.sheets.specs.declared.refusals.Fault.{Fault}
use Rattle.sheets.specs.declared.refusals.Fault.TheVariants as fault

abbrev pub SHORT : ℕ
SHORT = 1

abbrev pub KIND : ℕ
KIND = 2

abbrev pub LENGTH : ℕ
LENGTH = 3

abbrev pub COUNT : ℕ
COUNT = 4

abbrev pub MANY : ℕ
MANY = 5

abbrev pub SEGMENT : ℕ
SEGMENT = 6

abbrev pub SPAN : ℕ
SPAN = 7

abbrev pub ORDER : ℕ
ORDER = 8

abbrev pub DEPTH : ℕ
DEPTH = 9

abbrev pub TRAILING : ℕ
TRAILING = 10

abbrev pub HOLE_OR_OVERLAP : ℕ
HOLE_OR_OVERLAP = 11

-- the numbers that name a record, or what follows the last one; and whether n is one of a list
abbrev pub record_numbers : List ℕ
record_numbers = SHORT ∷ KIND ∷ LENGTH ∷ COUNT ∷ MANY ∷ SEGMENT ∷ SPAN ∷ ORDER ∷ DEPTH ∷ TRAILING ∷ []

unfoldable pub one_of : ℕ → List ℕ → Bool
one_of n [] = false
one_of n (k ∷ ks) = eqb n k || one_of n ks

-- the flag that number 11 carries
abbrev pub NO_FLAG : ℕ
NO_FLAG = 0

abbrev pub HOLE : ℕ
HOLE = 1

abbrev pub OVERLAP : ℕ
OVERLAP = 2

-- a fault's number in the table, and the flag that goes with it
abbrev pub fault_number : Fault → ℕ
fault_number fault.Short = SHORT
fault_number fault.Kind = KIND
fault_number fault.Length = LENGTH
fault_number fault.Count = COUNT
fault_number fault.Many = MANY
fault_number fault.Segment = SEGMENT
fault_number fault.Span = SPAN
fault_number fault.Order = ORDER
fault_number fault.Depth = DEPTH
fault_number fault.Trailing = TRAILING
fault_number fault.Hole = HOLE_OR_OVERLAP
fault_number fault.Overlap = HOLE_OR_OVERLAP

abbrev pub fault_flag : Fault → ℕ
fault_flag fault.Short = NO_FLAG
fault_flag fault.Kind = NO_FLAG
fault_flag fault.Length = NO_FLAG
fault_flag fault.Count = NO_FLAG
fault_flag fault.Many = NO_FLAG
fault_flag fault.Segment = NO_FLAG
fault_flag fault.Span = NO_FLAG
fault_flag fault.Order = NO_FLAG
fault_flag fault.Depth = NO_FLAG
fault_flag fault.Trailing = NO_FLAG
fault_flag fault.Hole = HOLE
fault_flag fault.Overlap = OVERLAP

-- a row of the table: the number, and whether the fault is there
infix 1 ◌when◌
pub data Test : Type 0 where
  ◌when◌ : (number : ℕ) (there : Bool) → Test

-- the number of the first fault that is there, and 0 where none is
unfoldable pub first_fault : List Test → ℕ
first_fault [] = 0
first_fault ((number when there) ∷ tests) = cond there number (first_fault tests)

-- what reading gives: the thing that was read, or a refusal
pub data Read (A : Type 0) : Type 0 where
  got : (thing : A) → Read A
  refused : (number place : ℕ) → Read A

-- `next` unless there is a fault, which is refused at the place
unfoldable pub unless : {A : Type 0} → (fault place : ℕ) → (next : Read A) → Read A
unless zero place next = next
unless (suc k) place next = refused (suc k) place

-- what is read next, from the thing that was read
unfoldable pub and_then : {A B : Type 0} → Read A → (A → Read B) → Read B
and_then (got thing) next = next thing
and_then (refused number place) next = refused number place
