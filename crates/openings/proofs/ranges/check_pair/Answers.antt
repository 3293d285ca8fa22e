-- `check_pair` meets its contract. Assumes nothing.
use mathlib.Core.List.{[], ◌∷◌}
use Rattle.std.proofs.lemmas.Result.{err_from_is_err_and}
use Rattle.openings.specs.Offsets.{element_test}
use Rattle.openings.proofs.Verdicts.{verdict_same, refused_front}
use Rattle.openings.proofs.Faults.{pair_next}
use Rattle.openings.proofs.ranges.check_pair.Goals as goal

pub returns-in_err-check_element : goal.returns-in_err-check_element
returns-in_err-check_element c =
    let a = c.args in
    let p = err_from_is_err_and c.from_residual.result c.from_residual.ensures.1 in
    rw (p.1, p.2) (refused_front (element_test a.m a.i ∷ []) (element_test a.n a.j ∷ []) c.in_err-check_element.field-0.0 c.in_err-check_element.ensures)

pub returns : goal.returns
returns c = let a = c.args in verdict_same _ _ (pair_next a.m a.i a.n a.j c.in_ok-check_element.ensures) _ c.check_element-2.ensures
