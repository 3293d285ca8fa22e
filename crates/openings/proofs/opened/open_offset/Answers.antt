-- `open_offset` meets its contract. Assumes nothing.
use Prim.Native.Nat.{ℕ}
use native.Mathlib.Omega.{arith}
use Rattle.std.proofs.lemmas.Result.{err_from_is_err_and}
use Rattle.openings.specs.Offsets.{offset_tests}
use Rattle.openings.proofs.Faults.{offset_earlier}
use Rattle.openings.proofs.Opens.{tests_refused, tests_passed}
use Rattle.openings.proofs.opened.open_offset.Goals as goal

-- the displacement that was held against may be any up to the element's, so that an edit of it fails where an offset is let through
pub returns-in_err-check_offset : goal.returns-in_err-check_offset
returns-in_err-check_offset c =
    let r = c.from_residual-in_err-check_offset in
    let o = c.in_ok-opening in
    let e = c.in_err-check_offset in
    let R = offset_earlier _ o.opening.selection.from c.args.x.0 e.field-0.0 e.ensures (omega arith) (omega arith) in
    let p = err_from_is_err_and r.result r.ensures.1 in
    rw (p.1, p.2) (tests_refused c.args.sheet.now c.args.element o.ensures.1 o.ensures.0 (λ (d : ℕ). offset_tests d c.args.x.0) e.field-0.0 R)

pub returns : goal.returns
returns c =
    let O = c.in_ok-opening.ensures in
    (tests_passed c.args.sheet.now c.args.element O.1 O.0 (λ (d : ℕ). offset_tests d c.args.x.0) c.in_ok-check_offset.ensures, O.1)
