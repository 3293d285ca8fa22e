-- `read_elements` meets its contract. The measure: how many elements are left. Assumes nothing.
use mathlib.Core.Path.{◌≡◌, refl, ◌∙◌}
use native.Mathlib.Omega.{arith}
use Prim.Native.Nat.{ℕ, ◌+◌, ◌-◌, ◌/◌, ◌≤◌}
use borrow.Author.Rules.{rules}
use lib.ListN.{length}
use Rattle.std.specs.Prelude.{Ok}
use Rattle.std.proofs.lemmas.Result.{err_from_is_err_and}
use Rattle.sheets.specs.Bytes.{le16}
use Rattle.sheets.specs.Records.{fault}
use Rattle.sheets.specs.Sheet.{top}
use Rattle.sheets.specs.Steps.{Stepped, Written}
use Rattle.sheets.proofs.Descent.{step_refused}
use Rattle.sheets.proofs.Lent.{room_behind}
use Rattle.sheets.proofs.ElementSteps.{families_of, element_fault_read, families_refused, element_there, refused_on_all, progress_none, ElementTaken, element_got, rest_progress, rest_written_all}
use Rattle.sheets.proofs.elements.+read_elements.Goals as goal
use Rattle.sheets.proofs.elements.+read_elements.Goals.{After-read_siblings, In_ok-check_record, In_ok-step}

-- the element record at hand has no fault
fine-at : (t : ℕ) (c : In_ok-check_record t) → let a = c.args in fault 4 (top (256 - a.done.families)) a.sheet.now 2 a.done.place ≡ 0
fine-at t c = rw c.top_limits-limits.ensures at c.in_ok-check_record.ensures

there-at : (t : ℕ) (c : In_ok-check_record t)
    → let a = c.args in
    (a.done.place + 6 ≤ length a.sheet.now) × (1 ≤ le16 a.sheet.now (a.done.place + 4))
there-at t c = let a = c.args in element_there a.sheet.now (256 - a.done.families) a.count a.done.place (omega arith) (fine-at t c)

-- what reading its families answered
families-step : (t : ℕ) (c : In_ok-step t)
    → let a = c.args in
    let R = families_of a.sheet.now (256 - a.done.families) a.done.place in
    Stepped (a.done.place + 6) 0 R (Ok c.in_ok-step.step) × Written R a.families.now c.read_siblings.new.families
families-step t c =
    let e = rw (c.top_limits-limits.ensures, c.le16_at-tops.ensures.number) at c.in_ok-step.ensures in
    (e.step, e.written)

taken_at : (t : ℕ) (c : In_ok-step t)
    →
    let a = c.args in
    ElementTaken a.sheet.now (256 - a.done.families) a.count a.done.place c.in_ok-step.step
taken_at t c = element_got _ _ _ _ (omega arith) (rw c.top_limits-limits.ensures at c.in_ok-check_record.ensures) _ (families-step t c).0

-- the room with its families is as long as it was, and they fit in it
room-long : (t : ℕ) (c : After-read_siblings t)
    → length c.read_siblings.new.families ≡ length c.args.families.now
room-long t c = search rules

they_fit : (t : ℕ) (c : In_ok-step t)
    →
    (c.in_ok-step.step.place - c.args.done.place - 6) / 22 ≤ length c.read_siblings.new.families
they_fit t c =
    let T = taken_at t c in
    let long : length c.read_siblings.new.families ≡ length c.args.families.now = search rules in
    omega (arith, T.span, T.fits, long)

pub returns-then-count-eq0 : goal.returns-then-count-eq0
returns-then-count-eq0 t c = let none = progress_none _ _ _ _ c.if-count-eq0.true _ _ in record { progress = none.0; written = none.1 }

pub returns-in_err-check_record : goal.returns-in_err-check_record
returns-in_err-check_record t c =
    let a = c.args in
    let p = err_from_is_err_and c.from_residual.result c.from_residual.ensures.1 in
    let e = rw c.top_limits-limits.ensures at c.in_err-check_record.ensures in
    let on = refused_on_all _ _ c.in_err-check_record.field-0.0 (element_fault_read a.sheet.now (256 - a.done.families) a.count a.done.place (omega arith) c.in_err-check_record.field-0.0 e) _ _ in
    rw (p.1, p.2) (record { progress = on.0; written = on.1 })

pub le16_at-tops-requires : goal.le16_at-tops-requires
le16_at-tops-requires t c = omega (arith, (there-at t (goal.at.le16_at-tops-requires t c).In_ok-check_record).0)

pub read_siblings-requires : goal.read_siblings-requires
read_siblings-requires t c =
    record {
      inside = (there-at t (goal.at.read_siblings-requires t c).In_ok-check_record).0;
      few = omega (arith, c.le16_at-tops.ensures.short);
      room = rw c.top_limits-limits.ensures (omega arith);
      long = rw c.top_limits-limits.ensures c.requires.long;
    }

pub returns-in_err-step : goal.returns-in_err-step
returns-in_err-step t c =
    let a = c.args in
    let p = err_from_is_err_and c.from_residual-in_err-step.result c.from_residual-in_err-step.ensures.1 in
    let e = rw (c.top_limits-limits.ensures, c.le16_at-tops.ensures.number) at c.in_err-step.ensures.step in
    let fine = fine-at t (goal.at.returns-in_err-step t c).In_ok-check_record in
    let on = refused_on_all _ _ c.in_err-step.field-0.0 (families_refused a.sheet.now (256 - a.done.families) a.count a.done.place (omega arith) fine _ _ (step_refused _ _ c.in_err-step.field-0.0 _ e)) _ _ in
    rw (p.1, p.2) (record { progress = on.0; written = on.1 })

pub overflow_cast-span : goal.overflow_cast-span
overflow_cast-span t c = let T = taken_at t (goal.at.overflow_cast-span t c).In_ok-step in omega (arith, T.span, T.fits)

pub add_element-requires-clause-families : goal.add_element-requires-clause-families
add_element-requires-clause-families t c = let T = taken_at t (goal.at.add_element-requires-clause-families t c).In_ok-step in omega (arith, T.span, T.fits)

pub slice_bounds-read_elements-count : goal.slice_bounds-read_elements-count
slice_bounds-read_elements-count t c = they_fit t (goal.at.slice_bounds-read_elements-count t c).In_ok-step

pub slice_bounds-read_elements-start : goal.slice_bounds-read_elements-start
slice_bounds-read_elements-start t c = they_fit t (goal.at.slice_bounds-read_elements-start t c).In_ok-step

pub read_elements-requires : goal.read_elements-requires
read_elements-requires t c =
    let a = c.args in
    let T = taken_at t (goal.at.read_elements-requires t c).In_ok-step in
    let k = (c.in_ok-step.step.place - a.done.place - 6) / 22 in
    let fits : a.done.families + k ≤ 256 = omega (arith, T.span, T.fits) in
    let left : 256 - a.done.families - k ≡ 256 - (a.done.families + k) = omega arith in
    let long : length c.read_siblings.new.families ≡ 256 - a.done.families = omega (arith, room-long t (goal.at.read_elements-requires t c).After-read_siblings) in
    let room = room_behind c.read_siblings.new.families (256 - a.done.families) k long ∙ left in
    rw c.add_element.ensures (omega (arith, c.decreases), (T.inside, (omega arith, (fits, room))))

pub returns : goal.returns
returns t c =
    let a = c.args in
    let T = taken_at t (goal.at.returns t c).In_ok-step in
    let k = (c.in_ok-step.step.place - a.done.place - 6) / 22 in
    let left : 256 - (a.done.families + k) ≡ 256 - a.done.families - k = omega arith in
    let rest = rw (c.add_element.ensures, left) at c.read_elements.ensures in
    record {
      progress = rest_progress _ _ _ _ _ T a.done _ _ k refl c.le16_at-tops.ensures.number refl rest.progress;
      written = rest_written_all _ _ _ _ _ T a.families.now c.read_siblings.new.families c.read_elements.new.families k _ refl refl (families-step t (goal.at.returns t c).In_ok-step).1 rest.written;
    }
