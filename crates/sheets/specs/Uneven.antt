-- Number 11 as the code finds it: the first offset of a pattern that is not in exactly one element. Assumes nothing: these are definitions.
use Rattle.std.specs.Prelude.{Bool, ◌||◌, not, cond, List, ℕ, eqb, ltb, Result, Ok, Err}
use Rattle.families.specs.Forest.{Forest}
use Rattle.sheets.specs.declared.refusals.Fault.{Fault}
use Rattle.sheets.specs.declared.refusals.Fault.TheVariants as fault
use Rattle.sheets.specs.declared.refusals.Refused.{Refused}
use Rattle.sheets.specs.Pattern.{sizes, in_elements, first_uneven}

-- an entry of a table of owners that stands for one element: 0 stands for none, 255 for two or more
abbrev pub single : ℕ → Bool
single v = not (eqb v 0 || eqb v 255)

-- the fault of an offset that is in k elements
abbrev pub fault_of : (k : ℕ) → Fault
fault_of k = cond (eqb k 0) fault.Hole fault.Overlap

abbrev pub uneven_of : List Forest → Result (Unit {0}) Refused
uneven_of Fs =
    cond (ltb (first_uneven Fs) (sizes Fs))
    (Err (record { fault = fault_of (in_elements Fs (first_uneven Fs)); place = first_uneven Fs }))
    (Ok tt)
