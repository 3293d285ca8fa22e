use mathlib.Core.Path.{◌≡◌}
use Prim.Native.Nat.{◌+◌, ◌*◌}
use Rattle.counting.specs.Count.{count_below}
use Rattle.families.specs.Forest.{has}
use Rattle.families.specs.Lent.{forest_of}
use Rattle.families.proofs.Loops.{Rest}
use Rattle.families.proofs.+rank.Given as goal

abbrev pub decreases-nested::Nested::rank : goal.decreases-nested::Nested::rank
decreases-nested::Nested::rank l = 2 * l.self.now.children.levels + 1

abbrev pub decreases-siblings::Siblings::rank : goal.decreases-siblings::Siblings::rank
decreases-siblings::Siblings::rank l = 2 * l.self.now.levels

abbrev pub invariant-siblings::Siblings::rank-loop : goal.invariant-siblings::Siblings::rank-loop
invariant-siblings::Siblings::rank-loop l =
    Rest l.self l.rest l.counter × (l.sum + count_below (has (forest_of l.rest)) l.x ≡ count_below (has (forest_of l.self)) l.x)
