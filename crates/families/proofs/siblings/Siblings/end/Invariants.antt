use mathlib.Core.Path.{◌≡◌}
use Prim.Native.Nat.{max}
use Rattle.families.specs.Forest.{end_of}
use Rattle.families.specs.Lent.{forest_of}
use Rattle.families.proofs.Loops.{Rest}
use Rattle.families.proofs.siblings.Siblings.end.Given as goal

abbrev pub invariant-loop : goal.invariant-loop
invariant-loop l = Rest l.self l.rest l.counter × (max l.farthest (end_of (forest_of l.rest)) ≡ end_of (forest_of l.self))
