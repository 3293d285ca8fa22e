-- `paint_all` meets its contract. The loop's invariant: the places below the index are painted, and the others are as they were. Assumes nothing.
use mathlib.Core.Path.{refl, sym, ap, ◌∙◌}
use mathlib.Core.Bool.{true}
use native.Mathlib.Omega.{arith}
use Rattle.families.specs.Owners.{mark}
use Rattle.families.proofs.Filling.{filled_none, filled_next, filled_all}
use Rattle.families.proofs.Marks.{length_painted, get_or_painted}
use Rattle.families.proofs.painting.paint_all.Goals as goal

pub loop-v-init : goal.loop-v-init
loop-v-init c = filled_none _ _ (sym (length_painted _ _ _))

pub loop-v-preserved : goal.loop-v-preserved
loop-v-preserved c =
    let a = c.args in
    let F = c.loop-v.invariant in
    let i = c.loop-v.v-index in
    let v = c.marked.ensures ∙ ap (mark a.me true) (F.rest i (omega arith)) ∙ sym (get_or_painted (λ _. true) a.me a.table.now i (omega arith)) in
    filled_next _ _ refl (omega (arith, length_painted (λ _. true) a.me a.table.now)) v F

pub returns : goal.returns
returns c = filled_all c.loop-v.invariant (λ x h l. absurd (omega arith))
