-- `record_fault` meets its contract: the match goes by the kind that the record has, and what it picks is that of the kind that is due. Assumes nothing.
use native.Mathlib.Omega.{arith}
use mathlib.Core.Path.{◌≡◌, refl, sym, ◌∙◌}
use Prim.Native.Nat.{◌+◌, ◌≤◌}
use lib.ListN.{length}
use Rattle.std.proofs.lemmas.Result.{err_from_is_err_and}
use Rattle.sheets.specs.Records.{length_of}
use Rattle.sheets.proofs.Answered.{number_some}
use Rattle.sheets.proofs.Verdicts.{header_length, element_length, family_length, head_short, record_head, record_body, record_unknown, body_header, body_element, body_family}
use Rattle.sheets.proofs.Faults.{head_done}
use Rattle.sheets.proofs.records.record_fault.Goals as goal
use Rattle.sheets.proofs.records.record_fault.Goals.{In_ok-head_fault-in-1, In_ok-head_fault-in-2, In_ok-head_fault-in-3}

-- where the head has no fault, the arm's kind is due, and the record is there to its end
header-done : (c : In_ok-head_fault-in-1) → let a = c.args in (a.due ≡ 1) × (a.at + 2 + length_of 1 ≤ length a.sheet.now)
header-done c = head_done _ _ _ 1 _ c.in_ok-head_fault-in-1.ensures refl (sym c.le16_at-kind.ensures.number ∙ c.in-1.is)

element-done : (c : In_ok-head_fault-in-2) → let a = c.args in (a.due ≡ 2) × (a.at + 2 + length_of 2 ≤ length a.sheet.now)
element-done c = head_done _ _ _ 2 _ c.in_ok-head_fault-in-2.ensures refl (sym c.le16_at-kind.ensures.number ∙ c.in-2.is)

family-done : (c : In_ok-head_fault-in-3) → let a = c.args in (a.due ≡ 3) × (a.at + 2 + length_of 3 ≤ length a.sheet.now)
family-done c = head_done _ _ _ 3 _ c.in_ok-head_fault-in-3.ensures refl (sym c.le16_at-kind.ensures.number ∙ c.in-3.is)

pub returns-then-sheet-at-lt4 : goal.returns-then-sheet-at-lt4
returns-then-sheet-at-lt4 c = record_head _ _ _ _ _ 1 (head_short _ _ _ (omega arith)) (λ e. omega arith)

pub returns-in-0 : goal.returns-in-0
returns-in-0 c =
    record_unknown _ _ _ _ _ _ (omega arith) (omega arith) (omega arith) c.le16_at-kind.ensures.number (λ e. omega arith) (λ e. omega arith) (λ e. omega arith)

pub returns-in-0-2 : goal.returns-in-0-2
returns-in-0-2 c =
    record_unknown _ _ _ _ _ _ (omega arith) (omega arith) (omega arith) c.le16_at-kind.ensures.number (λ e. omega arith) (λ e. omega arith) (λ e. omega arith)

pub head_fault-requires-clause-length : goal.head_fault-requires-clause-length
head_fault-requires-clause-length c = sym (header_length _ c.in-1.is)

pub returns-in_err-head_fault-in-1 : goal.returns-in_err-head_fault-in-1
returns-in_err-head_fault-in-1 c =
    let p = err_from_is_err_and c.from_residual.result c.from_residual.ensures.1 in
    rw (p.1, p.2) (record_head _ _ _ _ _ _ c.in_err-head_fault-in-1.ensures (λ e. omega (arith, number_some c.in_err-head_fault-in-1.field-0.0)))

pub header_fault-requires : goal.header_fault-requires
unfolding length_of
header_fault-requires c = omega (arith, (header-done c).1)

pub returns-in_ok-head_fault-in-1 : goal.returns-in_ok-head_fault-in-1
returns-in_ok-head_fault-in-1 c =
    record_body _ _ _ _ _ _ c.in_ok-head_fault-in-1.ensures refl _ (c.header_fault.ensures ∙ body_header _ _ _ _ _ (header-done (goal.at.returns-in_ok-head_fault-in-1 c).In_ok-head_fault-in-1).0)

pub head_fault-requires-in-2-clause-length : goal.head_fault-requires-in-2-clause-length
head_fault-requires-in-2-clause-length c = sym (element_length _ c.in-2.is)

pub returns-in_err-head_fault-in-2 : goal.returns-in_err-head_fault-in-2
returns-in_err-head_fault-in-2 c =
    let p = err_from_is_err_and c.from_residual-in_err-head_fault-in-2.result c.from_residual-in_err-head_fault-in-2.ensures.1 in
    rw (p.1, p.2) (record_head _ _ _ _ _ _ c.in_err-head_fault-in-2.ensures (λ e. omega (arith, number_some c.in_err-head_fault-in-2.field-0.0)))

pub element_fault-requires : goal.element_fault-requires
unfolding length_of
element_fault-requires c = omega (arith, (element-done c).1)

pub returns-in_ok-head_fault-in-2 : goal.returns-in_ok-head_fault-in-2
returns-in_ok-head_fault-in-2 c =
    record_body _ _ _ _ _ _ c.in_ok-head_fault-in-2.ensures refl _ (c.element_fault.ensures ∙ body_element _ _ _ _ _ (element-done (goal.at.returns-in_ok-head_fault-in-2 c).In_ok-head_fault-in-2).0)

pub head_fault-requires-in-3-clause-length : goal.head_fault-requires-in-3-clause-length
head_fault-requires-in-3-clause-length c = sym (family_length _ c.in-3.is)

pub returns-in_err-head_fault-in-3 : goal.returns-in_err-head_fault-in-3
returns-in_err-head_fault-in-3 c =
    let p = err_from_is_err_and c.from_residual-in_err-head_fault-in-3.result c.from_residual-in_err-head_fault-in-3.ensures.1 in
    rw (p.1, p.2) (record_head _ _ _ _ _ _ c.in_err-head_fault-in-3.ensures (λ e. omega (arith, number_some c.in_err-head_fault-in-3.field-0.0)))

pub family_record-requires : goal.family_record-requires
unfolding length_of
family_record-requires c = omega (arith, (family-done c).1)

pub returns-in_ok-head_fault-in-3 : goal.returns-in_ok-head_fault-in-3
returns-in_ok-head_fault-in-3 c =
    record_body _ _ _ _ _ _ c.in_ok-head_fault-in-3.ensures refl _ (c.family_fault.ensures ∙ rw c.family_record.ensures.held refl ∙ body_family _ _ _ _ _ (family-done (goal.at.returns-in_ok-head_fault-in-3 c).In_ok-head_fault-in-3).0)
