-- An answer by its cases: what one of them says is what the answer says. Assumes nothing.
use mathlib.Core.Path.{◌≡◌, sym, ap, ◌∙◌}
use Rattle.openings.specs.Said.{Said}
use Rattle.said.specs.declared.Answer.{Answer}
use Rattle.said.specs.Answers.{answer_of}

pub telling : {A : Type 0} (says : A → Said) {answer made : A} → answer ≡ made → (r : Answer) → r ≡ answer_of (says made) → r ≡ answer_of (says answer)
telling {A} says is r e = e ∙ sym (ap (λ (a : A). answer_of (says a)) is)
