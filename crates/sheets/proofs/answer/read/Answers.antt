-- `read` meets its contract: what was read is the layout of the sheet's elements, and that is judged. Assumes nothing.
use native.Mathlib.Omega.{arith}
use mathlib.Core.Path.{◌≡◌, sym, ◌∙◌}
use Prim.Native.Nat.{ℕ}
use Rattle.sheets.specs.Sheet.{elements_of}
use Rattle.sheets.specs.Steps.{start, WrittenAll, layout_from}
use Rattle.sheets.specs.Refusals.{got}
use Rattle.sheets.specs.Bytes.{le32}
use lib.ListN.{replicate}
use Rattle.families.specs.Decoded.{no_family}
use Rattle.families.specs.Flat.{layout_of}
use Rattle.sheets.proofs.Shapes.{SheetRead, sheet_read, header_inside}
use Rattle.std.proofs.lemmas.Result.{err_from_is_err_and}
use Rattle.sheets.proofs.SheetSteps.{ProgressGot, progress_got, progress_refused}
use Rattle.sheets.proofs.Answers.{answer_refused, answer_got, layout_is, ends_some, ends_most, ok_ended, judged_is, end_is}
use Rattle.sheets.proofs.answer.read.Goals as goal
use Rattle.sheets.proofs.answer.read.Goals.{In_ok-all}

-- what reading the records answered: the sheet's elements
got-at : (c : In_ok-all)
    →
    ProgressGot start c.in_ok-all.all (elements_of c.args.sheet.now)
got-at c = progress_got _ _ _ c.in_ok-all.ensures.progress

sheet-at : (c : In_ok-all) → SheetRead c.args.sheet.now (got-at c).elements
sheet-at c = sheet_read _ _ (got-at c).is

written_at : (c : In_ok-all) → WrittenAll (got (got-at c).elements) (replicate 256 no_family) c.read_records.new.families
written_at c = rw (got-at c).is at c.in_ok-all.ensures.written

-- and the layout that they are
layout-at : (c : In_ok-all) (d : ℕ) → d ≡ le32 c.args.sheet.now 4
    → layout_from d c.in_ok-all.all c.read_records.new.families ≡ layout_of (le32 c.args.sheet.now 4) (got-at c).elements
layout-at c d e = rw e (layout_is _ (sheet-at c).most _ _ _ (got-at c).progress (written_at c))

pub returns-in_err-all : goal.returns-in_err-all
returns-in_err-all c =
    let p = err_from_is_err_and c.from_residual.result c.from_residual.ensures.1 in
    rw (p.1, p.2) (answer_refused _ c.in_err-all.field-0.0 (progress_refused _ c.in_err-all.field-0.0 _ c.in_err-all.ensures.progress))

pub le32_at-displacement-requires : goal.le32_at-displacement-requires
le32_at-displacement-requires c = omega (arith, header_inside _ (sheet-at c).header)

pub overflow_cast-all : goal.overflow_cast-all
overflow_cast-all c =
    let p = (goal.at.overflow_cast-all c).In_ok-all in
    omega (arith, end_is _ _ (got-at p).progress, ends_most _ (sheet-at p).each)

pub judge-requires-clause-least : goal.judge-requires-clause-least
judge-requires-clause-least c =
    let p = (goal.at.judge-requires-clause-least c).In_ok-all in
    omega (arith, end_is _ _ (got-at p).progress, ends_some _ (sheet-at p).each (sheet-at p).least)

pub judge-requires-clause-most : goal.judge-requires-clause-most
judge-requires-clause-most c =
    let p = (goal.at.judge-requires-clause-most c).In_ok-all in
    omega (arith, end_is _ _ (got-at p).progress, ends_most _ (sheet-at p).each)

pub judge-requires-clause-ok : goal.judge-requires-clause-ok
unfolding layout_from
judge-requires-clause-ok c =
    let p = (goal.at.judge-requires-clause-ok c).In_ok-all in
    let S = sheet-at p in
    rw (layout-at p _ c.le32_at-displacement.ensures) (ok_ended _ (got-at p).elements _ (end_is _ _ (got-at p).progress) S.each S.least S.most S.room)

pub returns : goal.returns
unfolding layout_from
returns c =
    let p = (goal.at.returns c).In_ok-all in
    c.judge.ensures ∙ rw (layout-at p _ c.le32_at-displacement.ensures) (judged_is _ _ (sheet-at p).each ∙ sym (answer_got _ _ (got-at p).is))
