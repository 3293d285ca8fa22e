-- `share_out` meets its contract. The loop's invariant: the shares of the elements below e stand in the table. Assumes nothing.
use native.Mathlib.Omega.{arith}
use Rattle.trays.proofs.Layouts.{elements_length}
use Rattle.trays.proofs.Allotting.{allotted_none, allotted_all, allotting_fits, allotting_next}
use Rattle.trays.proofs.shares.share_out.Goals as goal

pub loop-e-init : goal.loop-e-init
loop-e-init c =
    let count = elements_length c.args.pattern.now.layout.now c.args.pattern.now.size in
    allotted_none _ _ _ _ _ _ (omega (arith, count, c.requires.room))

pub overflow_add-at : goal.overflow_add-at
overflow_add-at c =
    let fits =
    allotting_fits c.args.pattern.now.ok c.args.window c.loop-e.invariant c.loop-e-test.true c.subfile_of-subfile.ensures.families _ c.subfile_of-subfile.ensures.selection
    _ (let share = c.share_of-share.ensures in (share.start, (share.count, (share.before, share.size)))) c.requires.after in
    omega (arith, fits)

pub loop-e-preserved : goal.loop-e-preserved
loop-e-preserved c =
    allotting_next c.args.pattern.now.ok c.args.window c.loop-e.invariant c.loop-e-test.true c.subfile_of-subfile.ensures.families _ c.subfile_of-subfile.ensures.selection
    _ (let share = c.share_of-share.ensures in (share.start, (share.count, (share.before, share.size))))

pub returns : goal.returns
returns c =
    allotted_all c.loop-e.invariant (omega (arith, elements_length c.args.pattern.now.layout.now c.args.pattern.now.size, c.loop-e-test.false))
