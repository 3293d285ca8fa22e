-- `fill_strides` meets its contract. The loop's invariant: the table is filled from the place on, and what every owner faces is known. Assumes nothing.
use mathlib.Core.Path.{refl}
use native.Mathlib.Omega.{arith}
use Rattle.moves.proofs.Filling.{Turned, Fitting, filling_turn, filling_same, filling_fits, filling_next}
use Rattle.moves.proofs.ahead.fill_strides.Goals as goal
use Rattle.moves.proofs.ahead.fill_strides.Goals.{Joined-owner-last, then-owner-last, else-owner-last}

-- where the two ways meet, the owner of the place has the run
turned : (c : Joined-owner-last) → let s = c.args in
    Turned s.owners.now s.period s.nexts.now c.loop-place.place c.if-owner-last.last c.if-owner-last.run c.if-owner-last.gap c.if-owner-last.nexts
turned c =
    elim c.if-owner-last.branch [
      | then-owner-last w ↦ rw (w.nexts-is, w.last-is, w.run-is, w.gap-is, c.from-owner.ensures) (filling_turn c.loop-place.invariant c.loop-place-test.true c.requires.nexts (rw c.from-owner.ensures at w.if-owner-last.true))
      | else-owner-last w ↦ rw (w.nexts-is, w.last-is, w.run-is, w.gap-is) (filling_same c.loop-place.invariant (rw c.from-owner.ensures at w.if-owner-last.false))
    ]

fits : (c : Joined-owner-last) → Fitting c.loop-place.place c.if-owner-last.run c.if-owner-last.gap c.loop-place.strides
fits c = filling_fits c.loop-place.invariant c.loop-place-test.true (turned c)

pub overflow_add-strides : goal.overflow_add-strides
overflow_add-strides c = omega (arith, (fits (goal.at.overflow_add-strides c).Joined-owner-last).small)

pub overflow_cast-strides-in-loop-place : goal.overflow_cast-strides-in-loop-place
overflow_cast-strides-in-loop-place c = omega (arith, (fits (goal.at.overflow_cast-strides-in-loop-place c).Joined-owner-last).small)

pub loop-place-preserved : goal.loop-place-preserved
loop-place-preserved c =
    filling_next c.loop-place.invariant c.loop-place-test.true (turned (goal.at.loop-place-preserved c).Joined-owner-last) _ refl refl
