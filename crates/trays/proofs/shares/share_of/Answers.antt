-- `share_of` meets its contract. Assumes nothing.
use native.Mathlib.Omega.{arith}
use Rattle.counting.proofs.Counts.{count_mono}
use Rattle.maps.specs.Selected.{belongs}
use Rattle.trays.proofs.shares.share_of.Goals as goal

pub overflow_sub-result : goal.overflow_sub-result
overflow_sub-result c =
    let more = count_mono (belongs c.args.subfile.now.selection c.args.subfile.now.families.now) _ _ c.args.window.ok.ordered in
    omega (arith, c.rank-before.ensures, c.rank-last.ensures, more)
