-- `list_runs` meets its contract. The loop's invariant: what is handed on so far and what is left make the whole. Assumes nothing.
use native.Mathlib.Omega.{arith}
use Rattle.runs.proofs.Handing.{handing_first, ran, further, handing_next, handing_all}
use Rattle.runs.proofs.track.Track.list_runs.Goals as goal

pub pass-at-requires : goal.pass-at-requires
pass-at-requires c = c.args.self.now.walks

pub loop-at-init : goal.loop-at-init
loop-at-init c =
    (c.pass-at.ensures.walks, handing_first _ _ _ _ _ c.args.self.now.walks.window c.pass-at.ensures.up_to c.args.self.now.walks.near _)

pub pass-past-requires : goal.pass-past-requires
pass-past-requires c =
    let I = c.loop-at.invariant in
    record { walks = I.0; window = I.1.most; near = I.1.near }

pub overflow_sub-past : goal.overflow_sub-past
overflow_sub-past c = omega (arith, ran _ _ _ c.loop-at.invariant.1 c.loop-at-test.true _ c.pass-past.ensures.up_to)

pub add-runs-requires : goal.add-runs-requires
add-runs-requires c =
    let H = c.loop-at.invariant.1 in
    omega (arith, H.few, H.most, H.near)

pub pass-at-requires-in-loop-at : goal.pass-at-requires-in-loop-at
pass-at-requires-in-loop-at c =
    -- the run that starts where the loop stands is not empty, and ends in the window
    let past = ran _ _ _ c.loop-at.invariant.1 c.loop-at-test.true _ c.pass-past.ensures.up_to in
    record { walks = c.pass-past.ensures.walks; window = past.1; near = c.loop-at.invariant.1.near }

pub loop-at-smaller : goal.loop-at-smaller
loop-at-smaller c =
    let inside = c.loop-at-test.true in
    omega (arith, inside, further _ _ _ c.loop-at.invariant.1 inside _ c.pass-past.ensures.up_to _ c.pass-at-in-loop-at.ensures.up_to)

pub loop-at-preserved : goal.loop-at-preserved
loop-at-preserved c =
    let I = c.loop-at.invariant in
    let run = c.pass-past.ensures.up_to in
    let gap = c.pass-at-in-loop-at.ensures in
    let added = c.add-runs.ensures in
    (gap.walks, handing_next _ _ _ I.1 c.loop-at-test.true _ run _ gap.up_to _ _ I.0.one.rank I.0.two.rank _ _ added)

pub returns : goal.returns
returns c =
    handing_all _ _ _ _ _ c.args.self.now.walks.window c.pass-at.ensures.up_to c.loop-at.invariant.1 c.loop-at-test.false
