-- `read_records` meets its contract. Assumes nothing.
use mathlib.Core.Path.{◌≡◌, sym, ap, ◌∙◌}
use native.Mathlib.Omega.{arith}
use Rattle.std.specs.Prelude.{Ok, Err}
use Rattle.std.proofs.lemmas.Result.{err_from_is_err_and}
use Rattle.sheets.specs.declared.refusals.Refused.{Refused}
use Rattle.sheets.specs.declared.refusals.Fault.TheVariants as fault
use Rattle.sheets.specs.Refusals.{refused}
use Rattle.sheets.specs.Bytes.{le16}
use Rattle.sheets.specs.Records.{fault as record_fault}
use Rattle.sheets.specs.Sheet.{top, elements_from, elements_of}
use Rattle.sheets.specs.Steps.{start, Progressed, WrittenAll}
use Rattle.sheets.proofs.SheetSteps.{header_refused, header_there, elements_refused, trailing_refused, all_read, ProgressGot, progress_got, progress_refused}
use Rattle.sheets.proofs.ElementSteps.{refused_on_all}
use Rattle.sheets.proofs.elements.read_records.Goals as goal
use Rattle.sheets.proofs.elements.read_records.Goals.{After-from_residual, After-from_residual-in_err-all, In_ok-all, In_ok-check_record, Then-all-sheet}

-- the header has no fault
fine-at : (c : In_ok-check_record) → record_fault 4 (top 256) c.args.sheet.now 1 0 ≡ 0
fine-at c = rw c.top_limits.ensures at c.in_ok-check_record.ensures

-- what reading the elements answered
elements-step : (c : In_ok-all)
    → let a = c.args in
    let R = elements_from a.sheet.now 256 (le16 a.sheet.now 8) 10 in
    Progressed R start (Ok c.in_ok-all.all) × WrittenAll R a.families.now c.read_elements.new.families
unfolding start
elements-step c =
    let e = rw (c.at_the_start.ensures, c.le16_at-count.ensures.number) at c.in_ok-all.ensures in
    (e.progress, e.written)

got-at : (c : In_ok-all) → let xs = c.args.sheet.now in ProgressGot start c.in_ok-all.all (elements_from xs 256 (le16 xs 8) 10)
got-at c = progress_got _ _ _ (elements-step c).0

-- each refusal, and what was read
header-refused : (c : After-from_residual) → (Progressed (elements_of c.args.sheet.now) start c.from_residual.result) × (WrittenAll (elements_of c.args.sheet.now) c.args.families.now c.args.families.now)
header-refused c =
    let p = err_from_is_err_and c.from_residual.result c.from_residual.ensures.1 in
    let e = rw c.top_limits.ensures at c.in_err-check_record.ensures in
    rw (p.1, p.2) (refused_on_all _ _ c.in_err-check_record.field-0.0 (header_refused _ c.in_err-check_record.field-0.0 e) _ _)

elements-refused : (c : After-from_residual-in_err-all) → (Progressed (elements_of c.args.sheet.now) start c.from_residual-in_err-all.result) × (WrittenAll (elements_of c.args.sheet.now) c.args.families.now c.read_elements.new.families)
unfolding start
elements-refused c =
    let p = err_from_is_err_and c.from_residual-in_err-all.result c.from_residual-in_err-all.ensures.1 in
    let e = rw (c.at_the_start.ensures, c.le16_at-count.ensures.number) at c.in_err-all.ensures.progress in
    let is = elements_refused _ (fine-at (goal.at.returns-in_err-all-clause-written c).In_ok-check_record) _ _ (progress_refused _ c.in_err-all.field-0.0 _ e) in
    rw (p.1, p.2) (refused_on_all _ _ c.in_err-all.field-0.0 is _ _)

pub returns-in_err-check_record-clause-progress : goal.returns-in_err-check_record-clause-progress
returns-in_err-check_record-clause-progress c = (header-refused c).0

pub returns-in_err-check_record-clause-written : goal.returns-in_err-check_record-clause-written
returns-in_err-check_record-clause-written c = (header-refused c).1

pub le16_at-count-requires : goal.le16_at-count-requires
le16_at-count-requires c = (header_there _ (fine-at c)).0

pub read_elements-requires : goal.read_elements-requires
unfolding start
read_elements-requires c =
    let H = header_there _ (fine-at (goal.at.read_elements-requires c).In_ok-check_record) in
    rw c.at_the_start.ensures (record { inside = H.0; elements = omega (arith, H.2, c.le16_at-count.ensures.number); families = omega arith; long = omega arith })

pub returns-in_err-all-clause-progress : goal.returns-in_err-all-clause-progress
returns-in_err-all-clause-progress c = (elements-refused c).0

pub returns-in_err-all-clause-written : goal.returns-in_err-all-clause-written
returns-in_err-all-clause-written c = (elements-refused c).1

-- bytes follow the last record
trailing : (c : Then-all-sheet)
    → let a = c.args in
    let r : Refused = record { fault = fault.Trailing; place = c.in_ok-all.all.place } in
    (Progressed (elements_of a.sheet.now) start (Err r)) × (WrittenAll (elements_of a.sheet.now) a.families.now c.read_elements.new.families)
unfolding start
trailing c =
    let G = got-at (goal.at.returns-then-all-sheet-clause-written c).In_ok-all in
    let is = trailing_refused _ (fine-at (goal.at.returns-then-all-sheet-clause-written c).In_ok-check_record) G.elements G.is (omega (arith, G.place)) in
    refused_on_all _ _ _ (is ∙ ap (refused 10) (sym G.place)) _ _

-- .. and none does
whole : (c : goal.Else-all-sheet)
    → let a = c.args in
    (Progressed (elements_of a.sheet.now) start (Ok c.in_ok-all.all)) × (WrittenAll (elements_of a.sheet.now) a.families.now c.read_elements.new.families)
unfolding start
whole c =
    let G = got-at (goal.at.returns-clause-written c).In_ok-all in
    let all = all_read _ (fine-at (goal.at.returns-clause-written c).In_ok-check_record) G.elements G.is (omega (arith, G.place)) in
    let step = rw G.is at (elements-step (goal.at.returns-clause-written c).In_ok-all) in
    rw all step

pub returns-then-all-sheet-clause-progress : goal.returns-then-all-sheet-clause-progress
returns-then-all-sheet-clause-progress c = (trailing c).0

pub returns-then-all-sheet-clause-written : goal.returns-then-all-sheet-clause-written
returns-then-all-sheet-clause-written c = (trailing c).1

pub returns-clause-progress : goal.returns-clause-progress
returns-clause-progress c = (whole c).0

pub returns-clause-written : goal.returns-clause-written
returns-clause-written c = (whole c).1
