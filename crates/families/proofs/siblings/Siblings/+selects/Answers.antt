-- `selects` meets its contract. The measure is the levels left. The loop: what is left selects x exactly when all of it does.
-- Assumes nothing.
use mathlib.Core.Path.{refl, sym, ap, ◌∙◌}
use native.Mathlib.Omega.{arith}
use borrow.Author.Tests.{eq-eqb}
use Rattle.families.specs.Forest.{Forest, has}
use Rattle.families.specs.Lent.{forest_of}
use Rattle.families.proofs.Loops.{rest_first, rest_some, rest_next, rest_falls, rest_nil, has_leaf, has_kids, has_rest, nil_has}
use Rattle.families.proofs.siblings.Siblings.+selects.Goals as goal

pub loop-init : goal.loop-init
loop-init t c = (rest_first _, refl)

pub split_first-requires : goal.split_first-requires
split_first-requires t c = rest_some c.loop.invariant.0 c.loop-test.true

pub covers-requires : goal.covers-requires
covers-requires t c = c.split_first.result.0.fits.stride

pub returns-then-eldest-eq0 : goal.returns-then-eldest-eq0
returns-then-eldest-eq0 t c =
    let here = sym c.covers.ensures ∙ c.if-covers.true in
    eq-eqb _ _ c.if-eldest-eq0.true ∙ sym (c.loop.invariant.1 ∙ has_leaf c.split_first.ensures _ here c.if-eldest-eq0.true)

pub selects-requires : goal.selects-requires
selects-requires t c = (omega (arith, rest_falls c.loop.invariant.0 c.split_first.ensures), tt)

pub returns-else-eldest-eq0 : goal.returns-else-eldest-eq0
returns-else-eldest-eq0 t c =
    let here = sym c.covers.ensures ∙ c.if-covers.true in
    let below = has_kids c.split_first.ensures _ here c.if-eldest-eq0.false in
    c.selects.ensures ∙ ap (has (forest_of c.split_first.result.0.children)) c.place.ensures ∙ sym (c.loop.invariant.1 ∙ below)

pub loop-preserved : goal.loop-preserved
loop-preserved t c =
    (rest_next c.loop.invariant.0 c.split_first.ensures, c.loop.invariant.1 ∙ has_rest c.split_first.ensures _ (sym c.covers.ensures ∙ c.if-covers.false))

pub returns : goal.returns
returns t c = sym (c.loop.invariant.1 ∙ ap (λ (F : Forest). has F c.args.x) (rest_nil c.loop.invariant.0 c.loop-test.false) ∙ nil_has c.args.x)
