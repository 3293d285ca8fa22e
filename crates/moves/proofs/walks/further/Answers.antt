-- `further` meets its contract. Assumes nothing.
use mathlib.Core.Path.{sym, ◌∙◌}
use Rattle.moves.proofs.Beginnings.{furthers_on, further_in}
use Rattle.moves.proofs.walks.further.Goals as goal

pub returns-then-run-len : goal.returns-then-run-len
returns-then-run-len c =
    let asked = c.args in
    c.onward.ensures ∙ sym (furthers_on asked.s asked.strides.now asked.walk asked.run asked.len c.if-run-len.true)

pub returns : goal.returns
returns c =
    let asked = c.args in
    further_in asked.s asked.strides.now asked.walk asked.run asked.len c.if-run-len.false _ c.around.ensures
