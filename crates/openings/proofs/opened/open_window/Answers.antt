-- `open_window` meets its contract. Assumes nothing.
use Prim.Native.Nat.{ℕ}
use Rattle.std.proofs.lemmas.Result.{err_from_is_err_and}
use Rattle.openings.specs.Offsets.{window_tests}
use Rattle.openings.proofs.Opens.{tests_refused, tests_passed}
use Rattle.openings.proofs.opened.open_window.Goals as goal

pub returns-in_err-check_range : goal.returns-in_err-check_range
returns-in_err-check_range c =
    let a = c.args in
    let r = c.from_residual-in_err-check_range in
    let O = c.in_ok-opening.ensures in
    let p = err_from_is_err_and r.result r.ensures.1 in
    rw (p.1, p.2) (tests_refused a.sheet.now a.element O.1 O.0 (λ (d : ℕ). window_tests d a.a.0 a.b.0) c.in_err-check_range.field-0.0 c.in_err-check_range.ensures)

pub returns : goal.returns
returns c =
    let a = c.args in
    let O = c.in_ok-opening.ensures in
    (tests_passed a.sheet.now a.element O.1 O.0 (λ (d : ℕ). window_tests d a.a.0 a.b.0) c.in_ok-check_range.ensures, O.1)
