-- `inverse` of siblings and of a family meet their contracts. The loop: the offset sought is the `skip`-th of what is left.
-- The measure is the levels left, twice, since each calls the other. Assumes nothing.
use mathlib.Core.Path.{◌≡◌, refl, sym, ap, ◌∙◌}
use Prim.Native.Nat.{ℕ, ◌+◌, ◌-◌, ◌*◌, ◌/◌, ◌^◌, ◌≤◌, ◌<◌}
use native.Mathlib.Omega.{arith}
use Rattle.counting.specs.Count.{nth}
use Rattle.counting.proofs.Counts.{count_le}
use Rattle.families.specs.Forest.{inner, has, end_of, size_of, FARTHEST}
use Rattle.families.specs.Lent.{forest_of}
use Rattle.families.proofs.Forests.{size_le, wf_wider}
use Rattle.families.proofs.NestedFamily.{leaf_nth, kids_size, kids_nth}
use Rattle.families.proofs.Loops.{rest_first, rest_some, rest_next, rest_falls, rest_nil, size_step, nil_size, nth_in, nth_rest, nth_le, sound_fits, sound_rest, number_fits, place_lt}
use Rattle.families.proofs.+inverse.Goals as goal
use Rattle.families.proofs.+inverse.Goals.{siblings::Siblings::inverse-After-from, siblings::Siblings::inverse-Then-skip-here, siblings::Siblings::inverse-After-inverse-inside, nested::Nested::inverse-Else-self-eq0}

pub nested::Nested::inverse-overflow_cast-result : goal.nested::Nested::inverse-overflow_cast-result
nested::Nested::inverse-overflow_cast-result t c =
    let n = c.args.self.now in
    omega (arith, c.requires.below, c.requires.fits, count_le (inner (forest_of n.children)) (n.family.r - n.family.l + 1))

pub nested::Nested::inverse-returns-then-self-eq0 : goal.nested::Nested::inverse-returns-then-self-eq0
nested::Nested::inverse-returns-then-self-eq0 t c = leaf_nth c.args.self.now _ c.if-self-eq0.true c.requires.below

-- what is sought is among what the children select
below : (t : ℕ) (c : nested::Nested::inverse-Else-self-eq0 t) → c.args.y < size_of (forest_of c.args.self.now.children)
below t c = omega (arith, c.requires.below, kids_size c.args.self.now c.if-self-eq0.false)

pub nested::Nested::inverse-inverse-requires : goal.nested::Nested::inverse-inverse-requires
nested::Nested::inverse-inverse-requires t c =
    let n = c.args.self.now in
    (omega (arith, c.decreases), (wf_wider (forest_of n.children) (omega arith) (omega (arith, c.requires.fits)) n.inside, below t c))

pub nested::Nested::inverse-returns : goal.nested::Nested::inverse-returns
nested::Nested::inverse-returns t c =
    kids_nth c.args.self.now c.if-self-eq0.false _ _ (below t (goal.at.nested::Nested::inverse-returns t c).Else-self-eq0) c.inverse.ensures

-- what is left fits, and is what the eldest selects and the younger siblings do
turn : (t : ℕ) (c : siblings::Siblings::inverse-After-from t)
    → (size_of (forest_of c.loop.rest) ≡ c.from.result * c.segment_size-each.result + size_of (forest_of c.split_first.result.1)) × (size_of (forest_of c.loop.rest) ≤ FARTHEST + 1)
turn t c = (rw c.from.ensures (size_step c.split_first.ensures _ c.segment_size-each.ensures), size_le 0 FARTHEST _ c.loop.rest.ruled)

-- the offset sought is in the eldest
within : (t : ℕ) (c : siblings::Siblings::inverse-Then-skip-here t) → c.loop.skip < c.split_first.result.0.family.n * c.segment_size-each.result
within t c = rw c.from.ensures at c.if-skip-here.true

-- and is found there, and fits
found : (t : ℕ) (c : siblings::Siblings::inverse-After-inverse-inside t)
    → let l = c.loop in
    let f = c.split_first.result.0.family in
    let F = forest_of l.rest in
    let x = f.l + l.skip / c.segment_size-each.result * f.s + c.inverse-inside.result in
    (x ≡ nth (has F) (end_of F) l.skip) × (x ≤ 2 ^ 32 - 1)
found t c =
    let l = c.loop in
    let is = nth_in c.split_first.ensures _ c.segment_size-each.ensures _ _ (within t (goal.at.siblings::Siblings::inverse-returns-then-skip-here t c).Then-skip-here) c.inverse-inside.ensures in
    (is, omega (arith, is, nth_le (forest_of l.rest) (2 ^ 32 - 1) l.skip l.invariant.1 l.invariant.2))

pub siblings::Siblings::inverse-loop-init : goal.siblings::Siblings::inverse-loop-init
siblings::Siblings::inverse-loop-init t c = (rest_first _, c.requires.sound, c.requires.below, refl)

pub siblings::Siblings::inverse-split_first-requires : goal.siblings::Siblings::inverse-split_first-requires
siblings::Siblings::inverse-split_first-requires t c = rest_some c.loop.invariant.0 c.loop-test.true

pub siblings::Siblings::inverse-overflow_mul-here : goal.siblings::Siblings::inverse-overflow_mul-here
siblings::Siblings::inverse-overflow_mul-here t c = omega (arith, turn t c)

pub siblings::Siblings::inverse-inverse-inside-requires : goal.siblings::Siblings::inverse-inverse-inside-requires
siblings::Siblings::inverse-inverse-inside-requires t c =
    let S = c.split_first.ensures in
    let I = c.loop.invariant in
    let place = place_lt S _ c.segment_size-each.ensures _ (within t (goal.at.siblings::Siblings::inverse-inverse-inside-requires t c).Then-skip-here) in
    (omega (arith, rest_falls I.0 S, c.decreases), (sound_fits S I.1, place))

pub siblings::Siblings::inverse-overflow_cast-result : goal.siblings::Siblings::inverse-overflow_cast-result
siblings::Siblings::inverse-overflow_cast-result t c =
    omega (arith, number_fits c.split_first.ensures c.loop.invariant.1 _ _ (within t (goal.at.siblings::Siblings::inverse-overflow_cast-result t c).Then-skip-here))

pub siblings::Siblings::inverse-overflow_mul-result : goal.siblings::Siblings::inverse-overflow_mul-result
siblings::Siblings::inverse-overflow_mul-result t c = omega (arith, (found t c).1)

pub siblings::Siblings::inverse-overflow_add-result : goal.siblings::Siblings::inverse-overflow_add-result
siblings::Siblings::inverse-overflow_add-result t c = omega (arith, (found t c).1)

pub siblings::Siblings::inverse-overflow_add-result-then-skip-here : goal.siblings::Siblings::inverse-overflow_add-result-then-skip-here
siblings::Siblings::inverse-overflow_add-result-then-skip-here t c = omega (arith, (found t c).1)

pub siblings::Siblings::inverse-returns-then-skip-here : goal.siblings::Siblings::inverse-returns-then-skip-here
siblings::Siblings::inverse-returns-then-skip-here t c = (found t c).0 ∙ sym c.loop.invariant.3

pub siblings::Siblings::inverse-loop-preserved : goal.siblings::Siblings::inverse-loop-preserved
siblings::Siblings::inverse-loop-preserved t c =
    let I = c.loop.invariant in
    let S = c.split_first.ensures in
    let later = rw c.from.ensures at c.if-skip-here.false in (
      rest_next I.0 S,
      sound_rest S I.1,
      omega (arith, turn t (goal.at.siblings::Siblings::inverse-loop-preserved t c).After-from, I.2, c.if-skip-here.false),
      rw c.from.ensures (I.3 ∙ nth_rest S _ c.segment_size-each.ensures _ later I.2),
    )

pub siblings::Siblings::inverse-returns : goal.siblings::Siblings::inverse-returns
siblings::Siblings::inverse-returns t c =
    absurd (omega (arith, c.loop.invariant.2, ap size_of (rest_nil c.loop.invariant.0 c.loop-test.false), nil_size))
