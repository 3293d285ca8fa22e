-- `paint` of siblings and of a family meet their contracts. The loop over siblings keeps what is left to be painted, the loop over segments what
-- is painted. The measure is the levels left, twice, since each calls the other. Assumes nothing.
use native.Mathlib.Omega.{arith}
use Rattle.families.proofs.Loops.{rest_some, rest_falls}
use Rattle.families.proofs.Turns.{turn_first, turn_room, turn_part, turn_next, turn_last, painting_first, painting_fits, painting_next, painting_last, inner_all}
use Rattle.families.proofs.+paint.Goals as goal

pub nested::Nested::paint-loop-init : goal.nested::Nested::paint-loop-init
nested::Nested::paint-loop-init t c = turn_first _ _ _ _ _ _

pub nested::Nested::paint-slice_bounds-paint-end : goal.nested::Nested::paint-slice_bounds-paint-end
nested::Nested::paint-slice_bounds-paint-end t c =
    turn_room c.args.self.now.family c.loop.invariant c.requires.some c.requires.fits c.loop-test.true

pub nested::Nested::paint-paint-requires : goal.nested::Nested::paint-paint-requires
nested::Nested::paint-paint-requires t c =
    (omega arith, turn_part c.args.self.now.family c.loop.invariant c.requires.some c.requires.fits _ c.args.self.now.inside c.loop-test.true)

pub nested::Nested::paint-overflow_add-from : goal.nested::Nested::paint-overflow_add-from
nested::Nested::paint-overflow_add-from t c =
    omega (arith, turn_room c.args.self.now.family c.loop.invariant c.requires.some c.requires.fits c.loop-test.true)

pub nested::Nested::paint-overflow_add-to-in-loop : goal.nested::Nested::paint-overflow_add-to-in-loop
nested::Nested::paint-overflow_add-to-in-loop t c =
    omega (arith, turn_room c.args.self.now.family c.loop.invariant c.requires.some c.requires.fits c.loop-test.true)

pub nested::Nested::paint-loop-preserved : goal.nested::Nested::paint-loop-preserved
nested::Nested::paint-loop-preserved t c =
    turn_next c.args.self.now.family c.loop.invariant c.requires.some c.requires.fits _ c.loop-test.true c.paint.ensures

pub nested::Nested::paint-returns : goal.nested::Nested::paint-returns
nested::Nested::paint-returns t c =
    turn_last c.args.self.now.family c.loop.invariant c.requires.some c.requires.fits c.loop.auto.counter-end c.loop-test.false

pub siblings::Siblings::paint-returns-then-self-eq0 : goal.siblings::Siblings::paint-returns-then-self-eq0
siblings::Siblings::paint-returns-then-self-eq0 t c = rw (inner_all _ _ _ _ c.if-self-eq0.true) c.paint_all.ensures

pub siblings::Siblings::paint-loop-init : goal.siblings::Siblings::paint-loop-init
siblings::Siblings::paint-loop-init t c = painting_first _ _ _ c.requires.some c.requires.ruled

pub siblings::Siblings::paint-split_first-requires : goal.siblings::Siblings::paint-split_first-requires
siblings::Siblings::paint-split_first-requires t c = rest_some c.loop.invariant.left c.loop-test.true

pub siblings::Siblings::paint-paint-requires : goal.siblings::Siblings::paint-paint-requires
siblings::Siblings::paint-paint-requires t c =
    let P = c.loop.invariant in
    (omega (arith, rest_falls P.left c.split_first.ensures), (omega (arith, P), painting_fits P c.split_first.ensures))

pub siblings::Siblings::paint-loop-preserved : goal.siblings::Siblings::paint-loop-preserved
siblings::Siblings::paint-loop-preserved t c = painting_next c.loop.invariant c.split_first.ensures _ c.paint.ensures

pub siblings::Siblings::paint-returns : goal.siblings::Siblings::paint-returns
siblings::Siblings::paint-returns t c = painting_last c.loop.invariant c.loop-test.false c.if-self-eq0.false
