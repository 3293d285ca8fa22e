-- `span` meets its contract. Assumes nothing.
use Prim.Native.Nat.{ℕ}
use Rattle.std.proofs.lemmas.Result.{err_from_is_err_and}
use Rattle.openings.specs.Offsets.{interval_tests}
use Rattle.openings.proofs.Opens.{lent, opened, tests_refused, tests_passed}
use Rattle.astrephon.specs.Maps.{span_of}
use Rattle.astrephon.proofs.Mappings.{span_at}
use Rattle.astrephon.proofs.mapping.span.Goals as goal

pub returns-in_err-check_range : goal.returns-in_err-check_range
unfolding span_of
returns-in_err-check_range c =
    let a = c.args in
    let r = c.from_residual-in_err-check_range in
    let O = c.in_ok-opening.ensures in
    let p = err_from_is_err_and r.result r.ensures.1 in
    rw (p.1, p.2) (tests_refused a.sheet.now a.element O.1 O.0 (λ (d : ℕ). interval_tests d a.a.0 a.z.0) c.in_err-check_range.field-0.0 c.in_err-check_range.ensures _)

pub returns : goal.returns
returns c =
    let a = c.args in
    let O = c.in_ok-opening.ensures in
    let S = c.subfile-subfile.ensures in
    let passes = tests_passed a.sheet.now a.element O.1 O.0 (λ (d : ℕ). interval_tests d a.a.0 a.z.0) c.in_ok-check_range.ensures in
    span_at (lent c.in_ok-opening.opening S.selection S.families (opened _ _ O.1 O.0)) a.a.0 a.z.0 passes _ _ c.rank-first.ensures c.rank-last.ensures
