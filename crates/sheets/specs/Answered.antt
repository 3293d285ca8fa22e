-- What the code's answers say in 01's numbers. Assumes nothing: these are definitions.
use Rattle.std.specs.Prelude.{ℕ, Result, Ok, Err}
use Rattle.sheets.specs.declared.refusals.Fault.{Fault}
use Rattle.sheets.specs.declared.refusals.Refused.{Refused}
use Rattle.sheets.specs.declared.Sheet.{Sheet}
use Rattle.sheets.specs.Refusals.{NO_FLAG, fault_number, fault_flag}
use Rattle.sheets.specs.Sheet.{Reading, refusal}

-- the number of an answer to a record: 0 where it has no fault
abbrev pub number_of : {A : Type 0} → Result A Fault → ℕ
number_of (Ok thing) = 0
number_of (Err f) = fault_number f

-- THE READING that an answer to a sheet is
abbrev pub reading_of : Result Sheet Refused → Reading
reading_of (Ok s) = record { number = 0; place = 0; flag = NO_FLAG; size = s.size; layout = s.layout }
reading_of (Err r) = refusal (fault_number r.fault) r.place (fault_flag r.fault)
