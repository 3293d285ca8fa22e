-- TWO ANSWERS THAT SAY THE SAME are equal: of each type of answer, what is said gives the answer back. Assumes nothing.
use mathlib.Core.Path.{◌≡◌, refl, sym, ap, ◌∙◌}
use mathlib.Core.Bool.{cond}
use mathlib.Core.List.{List}
use Prim.Native.Nat.{ℕ}
use lib.Dec.{eqb}
use lib.ListN.{get_or}
use Rattle.std.specs.Prelude.{Ok, Err}
use Rattle.families.specs.declared.FileOffset.{FileOffset}
use Rattle.families.specs.declared.SubfileOffset.{SubfileOffset}
use Rattle.sheets.specs.Refusals.{SHORT, KIND, LENGTH, COUNT, MANY, SEGMENT, SPAN, ORDER, DEPTH, TRAILING, HOLE, fault_number, fault_flag}
use Rattle.sheets.specs.declared.refusals.Fault.{Fault}
use Rattle.sheets.specs.declared.refusals.Fault.TheVariants as fault
use Rattle.sheets.specs.declared.refusals.Refused.{Refused}
use Rattle.openings.specs.declared.Which.TheVariants.{First, Second}
use Rattle.openings.specs.declared.Refusal.{Refusal}
use Rattle.openings.specs.declared.Refusal.TheVariants.{Sheet, Element, Before, Far, Window, Foreign, Buffer, Room}
use Rattle.openings.specs.Said.{Said, done, refused}
use Rattle.openings.specs.Refusals.{ELEMENT, BEFORE, FAR, WINDOW, FOREIGN, BUFFER, refusal_says}
use Rattle.astrephon.specs.Says.{says, fact_values, subfile_value, file_value, interval_values, number_value, no_values}
use Rattle.astrephon.specs.declared.Facts.{Facts}
use Rattle.astrephon.specs.declared.Interval.{Interval}
use Rattle.astrephon.proofs.Contracts.{Answer}

-- ---- a refusal by what it tells: of a sheet, or of what else the call was given
of_call : (number place : ℕ) → Refusal
of_call number place =
    cond (eqb number ELEMENT) Element
    (cond (eqb number BEFORE) Before
    (cond (eqb number FAR) Far
    (cond (eqb number WINDOW) Window
    (cond (eqb number FOREIGN) Foreign
    (cond (eqb number BUFFER) Buffer (Room place))))))

of_fault : (number flag : ℕ) → Fault
of_fault number flag =
    cond (eqb number SHORT) fault.Short
    (cond (eqb number KIND) fault.Kind
    (cond (eqb number LENGTH) fault.Length
    (cond (eqb number COUNT) fault.Count
    (cond (eqb number MANY) fault.Many
    (cond (eqb number SEGMENT) fault.Segment
    (cond (eqb number SPAN) fault.Span
    (cond (eqb number ORDER) fault.Order
    (cond (eqb number DEPTH) fault.Depth
    (cond (eqb number TRAILING) fault.Trailing
    (cond (eqb flag HOLE) fault.Hole fault.Overlap))))))))))

fault_back : (f : Fault) → of_fault (fault_number f) (fault_flag f) ≡ f
unfolding of_fault
fault_back fault.Short = refl
fault_back fault.Kind = refl
fault_back fault.Length = refl
fault_back fault.Count = refl
fault_back fault.Many = refl
fault_back fault.Segment = refl
fault_back fault.Span = refl
fault_back fault.Order = refl
fault_back fault.Depth = refl
fault_back fault.Trailing = refl
fault_back fault.Hole = refl
fault_back fault.Overlap = refl

to_refusal : (number sheet place flag : ℕ) → Refusal
to_refusal number sheet place flag =
    let refused-sheet : Refused = record { fault = of_fault number flag; place = place } in
    cond (eqb sheet 1) (Sheet First refused-sheet) (cond (eqb sheet 2) (Sheet Second refused-sheet) (of_call number place))

-- ---- an answer by what is said: what `back` makes of the values, or the refusal
module _ {A : Type 0} (values : A → List ℕ) (back : List ℕ → A) (is : (a : A) → back (values a) ≡ a) where
  to_answer : Said → Answer A
  to_answer (done given) = Ok (back given)
  to_answer (refused number sheet place flag) = Err (to_refusal number sheet place flag)

  refused_back : (f : Refusal) → to_answer (refusal_says f) ≡ Err f
  unfolding to_answer to_refusal of_call
  refused_back (Sheet First f) = λ i. Err (Sheet First (record { fault = fault_back f.fault i; place = f.place }))
  refused_back (Sheet Second f) = λ i. Err (Sheet Second (record { fault = fault_back f.fault i; place = f.place }))
  refused_back Element = refl
  refused_back Before = refl
  refused_back Far = refl
  refused_back Window = refl
  refused_back Foreign = refl
  refused_back Buffer = refl
  refused_back (Room n) = refl

  answer_back : (r : Answer A) → to_answer (says values r) ≡ r
  unfolding to_answer
  answer_back (Ok a) = ap Ok (is a)
  answer_back (Err f) = refused_back f

  -- what gives every answer back tells answers apart
  told_apart : (r s : Answer A) → says values r ≡ says values s → r ≡ s
  told_apart r s e = sym (answer_back r) ∙ ap to_answer e ∙ answer_back s

-- ---- each type of answer
pub checked_same : (r s : Answer Facts) → says fact_values r ≡ says fact_values s → r ≡ s
checked_same = told_apart fact_values (λ given. record { size = get_or given 0 0; elements = get_or given 1 0; displacement = get_or given 2 0 }) (λ f. refl)

pub mapped_same : (r s : Answer SubfileOffset) → says subfile_value r ≡ says subfile_value s → r ≡ s
mapped_same = told_apart subfile_value (λ given. record { 0 = get_or given 0 0 }) (λ y. refl)

pub located_same : (r s : Answer FileOffset) → says file_value r ≡ says file_value s → r ≡ s
located_same = told_apart file_value (λ given. record { 0 = get_or given 0 0 }) (λ x. refl)

pub spanned_same : (r s : Answer Interval) → says interval_values r ≡ says interval_values s → r ≡ s
spanned_same = told_apart interval_values (λ given. record { first = record { 0 = get_or given 0 0 }; last = record { 0 = get_or given 1 0 } }) (λ i. refl)

pub counted_same : (r s : Answer ℕ) → says number_value r ≡ says number_value s → r ≡ s
counted_same = told_apart number_value (λ given. get_or given 0 0) (λ n. refl)

pub carried_same : (r s : Answer (Unit {0})) → says no_values r ≡ says no_values s → r ≡ s
carried_same = told_apart no_values (λ given. tt) (λ u. refl)
