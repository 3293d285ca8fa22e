use mathlib.Core.Path.{◌≡◌}
use Rattle.families.specs.Forest.{has}
use Rattle.families.specs.Lent.{forest_of}
use Rattle.families.proofs.Loops.{Rest}
use Rattle.families.proofs.siblings.Siblings.+selects.Given as goal

abbrev pub decreases-selects : goal.decreases-selects
decreases-selects l = l.self.now.levels

abbrev pub invariant-loop : goal.invariant-loop
invariant-loop l = Rest l.self l.rest l.counter × (has (forest_of l.self) l.x ≡ has (forest_of l.rest) l.x)
