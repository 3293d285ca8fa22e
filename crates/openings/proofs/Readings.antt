-- Reading a sheet of a call: what the reader answers, with the sheet that it blames. Assumes nothing.
use mathlib.Core.Path.{◌≡◌, sym, ap}
use native.Mathlib.Omega.{arith}
use Rattle.std.specs.Prelude.{Ok, Err}
use Rattle.sheets.specs.Answered.{reading_of}
use Rattle.sheets.specs.declared.Sheet.{Sheet}
use Rattle.sheets.specs.declared.refusals.Refused.{Refused}
use Rattle.sheets.specs.Sheet.{refusal, Reading}
use Rattle.sheets.proofs.Answered.{number_some}
use Rattle.openings.specs.declared.Which.{Which}
use Rattle.openings.specs.declared.Refusal.TheVariants as refusals
use Rattle.openings.specs.Refusals.{sheet_number}
use Rattle.openings.specs.Openings.{Reads}
use Rattle.openings.proofs.Orders.{sheet_passed, sheet_refused}

pub accepted_reads : (k : Which) (r : Reading) (s : Sheet) → reading_of (Ok s) ≡ r → Reads (sheet_number k) r (Ok s)
accepted_reads k r s is = (λ next. sheet_passed next (sheet_number k) r (ap (λ (t : Reading). t.number) (sym is)), is)

pub refused_reads : (k : Which) (r : Reading) (f : Refused) → reading_of (Err f) ≡ r → Reads (sheet_number k) r (Err (refusals.Sheet k f))
unfolding refusal
refused_reads k r f is = λ next. rw (← is) (sheet_refused next (sheet_number k) (reading_of (Err f)) (λ z. absurd (omega (arith, number_some f.fault, z))))
