-- `open_buffers` meets its contract. Assumes nothing.
use Prim.Native.Nat.{ℕ}
use Rattle.std.proofs.lemmas.Result.{err_from_is_err_and}
use Rattle.openings.specs.Offsets.{window_tests}
use Rattle.openings.proofs.Opens.{tests_refused, tests_passed, windowed, counted_refused, counted_passed}
use Rattle.openings.proofs.opened.open_buffers.Goals as goal

pub returns-in_err-check_range : goal.returns-in_err-check_range
returns-in_err-check_range c =
    let a = c.args in
    let r = c.from_residual in
    let O = rw c.in-Ok.is at c.open_element-opened.ensures in
    let p = err_from_is_err_and r.result r.ensures.1 in
    rw (p.1, p.2) (λ next. tests_refused a.sheet.now a.element O.1 O.0 (λ (d : ℕ). window_tests d a.a.0 a.b.0) c.in_err-check_range.field-0.0 c.in_err-check_range.ensures _)

pub count-selected-requires : goal.count-selected-requires
count-selected-requires c =
    let a = c.args in
    let O = rw c.in-Ok.is at c.open_element-opened.ensures in
    let P = tests_passed a.sheet.now a.element O.1 O.0 (λ (d : ℕ). window_tests d a.a.0 a.b.0) c.in_ok-check_range.ensures in
    record { forward = (windowed _ _ _ _ P O.1).forward }

pub overflow_sub-b : goal.overflow_sub-b
overflow_sub-b c =
    let a = c.args in
    let O = rw c.in-Ok.is at c.open_element-opened.ensures in
    let P = tests_passed a.sheet.now a.element O.1 O.0 (λ (d : ℕ). window_tests d a.a.0 a.b.0) c.in_ok-check_range.ensures in
    (windowed _ _ _ _ P O.1).forward

pub returns-in_err-check_buffers : goal.returns-in_err-check_buffers
returns-in_err-check_buffers c =
    let a = c.args in
    let r = c.from_residual-in_err-check_buffers in
    let O = rw c.in-Ok.is at c.open_element-opened.ensures in
    let P = tests_passed a.sheet.now a.element O.1 O.0 (λ (d : ℕ). window_tests d a.a.0 a.b.0) c.in_ok-check_range.ensures in
    let p = err_from_is_err_and r.result r.ensures.1 in
    rw (p.1, p.2) (counted_refused a.sheet.now a.element a.a.0 a.b.0 a.file a.packed P O.1 _ c.count-selected.ensures c.in_err-check_buffers.field-0.0 c.in_err-check_buffers.ensures)

pub returns-in_ok-check_buffers : goal.returns-in_ok-check_buffers
returns-in_ok-check_buffers c =
    let a = c.args in
    let O = rw c.in-Ok.is at c.open_element-opened.ensures in
    let P = tests_passed a.sheet.now a.element O.1 O.0 (λ (d : ℕ). window_tests d a.a.0 a.b.0) c.in_ok-check_range.ensures in
    rw c.in-Ok.is (counted_passed a.sheet.now a.element a.a.0 a.b.0 a.file a.packed P O.1 _ c.count-selected.ensures c.in_ok-check_buffers.ensures, O.1)
