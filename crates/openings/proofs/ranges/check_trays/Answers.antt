-- `check_trays` meets its contract. Assumes nothing.
use Rattle.std.proofs.lemmas.Result.{err_from_is_err_and}
use Rattle.openings.specs.Offsets.{LIMIT, window_tests}
use Rattle.openings.specs.Buffers.{buffer_tests}
use Rattle.openings.proofs.Verdicts.{verdict_same, passes_none, refused_front}
use Rattle.openings.proofs.Faults.{range_known, trays_next}
use Prim.Native.Nat.{◌-◌}
use Rattle.openings.proofs.ranges.check_trays.Goals as goal

pub returns-in_err-check_range : goal.returns-in_err-check_range
returns-in_err-check_range c =
    let a = c.args in
    let bytes = a.b.0 - a.a.0 in
    let p = err_from_is_err_and c.from_residual.result c.from_residual.ensures.1 in
    rw (p.1, p.2) (refused_front (window_tests a.from a.a.0 a.b.0) (buffer_tests a.one bytes a.two bytes) c.in_err-check_range.field-0.0 c.in_err-check_range.ensures)

pub overflow_sub-bytes : goal.overflow_sub-bytes
overflow_sub-bytes c = let a = c.args in (range_known LIMIT a.from a.a.0 a.b.0 (passes_none _ c.in_ok-check_range.ensures)).0

pub returns : goal.returns
returns c =
    let a = c.args in
    let K = range_known LIMIT a.from a.a.0 a.b.0 (passes_none _ c.in_ok-check_range.ensures) in
    verdict_same _ _ (trays_next a.from a.a.0 a.b.0 a.one a.two K) _ c.check_buffers.ensures
