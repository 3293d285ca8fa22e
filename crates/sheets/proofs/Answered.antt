-- Refusals in the code's words and in 01's numbers. Assumes nothing.
use mathlib.Core.Path.{◌≡◌, refl, sym, ap₂, ◌∙◌}
use mathlib.Core.Bool.{true, true≢false}
use Prim.Native.Nat.{ℕ, zero, suc, ◌≤◌}
use native.Mathlib.Omega.{arith}
use Rattle.sheets.specs.declared.refusals.Fault.{Fault}
use Rattle.sheets.specs.declared.refusals.Fault.TheVariants as fault
use Rattle.sheets.specs.declared.refusals.Refused.{Refused}
use Rattle.sheets.specs.Refusals.{Read, refused, unless, record_numbers, one_of, NO_FLAG, fault_number, fault_flag}
use Rattle.sheets.specs.Steps.{Refuses}

-- no fault has number 0, which says that a sheet is accepted
pub number_some : (f : Fault) → 1 ≤ fault_number f
number_some fault.Short = omega arith
number_some fault.Kind = omega arith
number_some fault.Length = omega arith
number_some fault.Count = omega arith
number_some fault.Many = omega arith
number_some fault.Segment = omega arith
number_some fault.Span = omega arith
number_some fault.Order = omega arith
number_some fault.Depth = omega arith
number_some fault.Trailing = omega arith
number_some fault.Hole = omega arith
number_some fault.Overlap = omega arith

-- only number 11 carries a flag
pub no_flag : (f : Fault) → one_of (fault_number f) record_numbers ≡ true → fault_flag f ≡ NO_FLAG
unfolding one_of
no_flag fault.Short e = refl
no_flag fault.Kind e = refl
no_flag fault.Length e = refl
no_flag fault.Count e = refl
no_flag fault.Many e = refl
no_flag fault.Segment e = refl
no_flag fault.Span e = refl
no_flag fault.Order e = refl
no_flag fault.Depth e = refl
no_flag fault.Trailing e = refl
no_flag fault.Hole e = absurd (true≢false (sym e))
no_flag fault.Overlap e = absurd (true≢false (sym e))

-- .. and that is a hole or an overlap
pub other_flag : (f : Fault) → (f ≡ fault.Hole → ⊥) → (f ≡ fault.Overlap → ⊥) → fault_flag f ≡ NO_FLAG
other_flag fault.Short h o = refl
other_flag fault.Kind h o = refl
other_flag fault.Length h o = refl
other_flag fault.Count h o = refl
other_flag fault.Many h o = refl
other_flag fault.Segment h o = refl
other_flag fault.Span h o = refl
other_flag fault.Order h o = refl
other_flag fault.Depth h o = refl
other_flag fault.Trailing h o = refl
other_flag fault.Hole h o = absurd (h refl)
other_flag fault.Overlap h o = absurd (o refl)

-- what is refused with a fault's number
unless_some : {A : Type 0} (k place : ℕ) (next : Read A) → 1 ≤ k → unless k place next ≡ refused k place
unfolding unless
unless_some zero place next h = absurd (omega arith)
unless_some (suc k) place next h = refl

pub unless_refuses : {A : Type 0} (r : Refused) (k place : ℕ) (next : Read A) → Refuses r k place → unless k place next ≡ refused (fault_number r.fault) r.place
unless_refuses r k place next e =
    unless_some k place next (omega (arith, e.0, number_some r.fault)) ∙ ap₂ refused (sym e.0) (sym e.1)
