use Prim.Native.Nat.{◌+◌, ◌*◌}
use Rattle.sheets.proofs.trees.+read_family_read_siblings.Given as goal

abbrev pub decreases-read_family : goal.decreases-read_family
decreases-read_family l = 65536 * l.levels

abbrev pub decreases-read_siblings : goal.decreases-read_siblings
decreases-read_siblings l = 65536 * l.levels + l.count
