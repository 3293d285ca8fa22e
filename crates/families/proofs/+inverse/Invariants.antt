use mathlib.Core.Path.{◌≡◌}
use Prim.Native.Nat.{◌+◌, ◌*◌, ◌<◌}
use Rattle.counting.specs.Count.{nth}
use Rattle.families.specs.Forest.{has, end_of, size_of, Sound}
use Rattle.families.specs.Lent.{forest_of}
use Rattle.families.proofs.Loops.{Rest}
use Rattle.families.proofs.+inverse.Given as goal

abbrev pub decreases-nested::Nested::inverse : goal.decreases-nested::Nested::inverse
decreases-nested::Nested::inverse l = 2 * l.self.now.children.levels + 1

abbrev pub decreases-siblings::Siblings::inverse : goal.decreases-siblings::Siblings::inverse
decreases-siblings::Siblings::inverse l = 2 * l.self.now.levels

abbrev pub invariant-siblings::Siblings::inverse-loop : goal.invariant-siblings::Siblings::inverse-loop
invariant-siblings::Siblings::inverse-loop l =
    let F = forest_of l.rest in
    let G = forest_of l.self in
    Rest l.self l.rest l.counter × Sound F × (l.skip < size_of F) × (nth (has G) (end_of G) l.y ≡ nth (has F) (end_of F) l.skip)
