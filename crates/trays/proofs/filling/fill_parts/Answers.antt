-- `fill_parts` meets its contract. The loop's invariant: the chosen parts below j are filled. Assumes nothing.
use mathlib.Core.Path.{refl}
use native.Mathlib.Omega.{arith}
use Rattle.trays.proofs.Parting.{parted_none, parted_long, targets_once, parting_held, parting_fits, parting_asks, parting_next}
use Rattle.trays.proofs.filling.fill_parts.Goals as goal

pub loop-j-init : goal.loop-j-init
loop-j-init c =
    parted_none (targets_once c.args.targets.now.pattern.ok c.requires.targets) c.requires.trays.long.second c.requires.chosen.ordered

pub bounds-targets-j : goal.bounds-targets-j
bounds-targets-j c =
    parting_held c.args.targets.now.pattern.ok c.requires.targets c.loop-j.invariant c.loop-j-test.true c.requires.chosen.most

pub overflow_add-to : goal.overflow_add-to
overflow_add-to c =
    let fits = parting_fits c.args.targets.now.pattern.ok c.requires.targets c.loop-j.invariant c.loop-j-test.true c.requires.chosen.most _ refl in
    omega (arith, fits, c.args.window.ok.near)

pub slice_bounds-fill_part-end : goal.slice_bounds-fill_part-end
slice_bounds-fill_part-end c =
    let fits = parting_fits c.args.targets.now.pattern.ok c.requires.targets c.loop-j.invariant c.loop-j-test.true c.requires.chosen.most _ refl in
    omega (arith, fits, parted_long (targets_once c.args.targets.now.pattern.ok c.requires.targets) c.loop-j.invariant)

pub fill_part-requires-clause-carries : goal.fill_part-requires-clause-carries
fill_part-requires-clause-carries c =
    (parting_asks c.args.targets.now.pattern.ok c.requires.targets c.loop-j.invariant c.loop-j-test.true c.requires.chosen.most _ refl _ c.subfile_of-subfile.ensures.selection _ c.subfile_of-subfile.ensures.families c.requires.trays).0

pub loop-j-preserved : goal.loop-j-preserved
loop-j-preserved c =
    parting_next c.args.targets.now.pattern.ok c.requires.targets c.loop-j.invariant c.loop-j-test.true c.requires.chosen.most _ refl _ c.subfile_of-subfile.ensures.selection _ c.subfile_of-subfile.ensures.families
    c.fill_part.new.part c.fill_part.ensures
