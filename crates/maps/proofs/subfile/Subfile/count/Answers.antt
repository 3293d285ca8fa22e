-- `count` meets its contract. Assumes nothing.
use native.Mathlib.Omega.{arith}
use Rattle.counting.proofs.Counts.{count_mono}
use Rattle.maps.specs.Selected.{belongs}
use Rattle.maps.proofs.subfile.Subfile.count.Goals as goal

pub overflow_sub-result : goal.overflow_sub-result
overflow_sub-result c = let s = c.args.self.now in
    omega (arith, c.rank.ensures, c.rank-2.ensures, count_mono (belongs s.selection s.families.now) _ _ c.requires)
