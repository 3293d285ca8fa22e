use mathlib.Core.Path.{◌≡◌}
use Prim.Native.Nat.{◌+◌, ◌*◌}
use Rattle.families.specs.Forest.{size_of}
use Rattle.families.specs.Lent.{forest_of}
use Rattle.families.proofs.Loops.{Rest}
use Rattle.families.proofs.+size.Given as goal

abbrev pub decreases-nested::Nested::segment_size : goal.decreases-nested::Nested::segment_size
decreases-nested::Nested::segment_size l = 2 * l.self.now.children.levels + 1

abbrev pub decreases-siblings::Siblings::size : goal.decreases-siblings::Siblings::size
decreases-siblings::Siblings::size l = 2 * l.self.now.levels

abbrev pub invariant-siblings::Siblings::size-loop : goal.invariant-siblings::Siblings::size-loop
invariant-siblings::Siblings::size-loop l = Rest l.self l.rest l.counter × (l.sum + size_of (forest_of l.rest) ≡ size_of (forest_of l.self))
