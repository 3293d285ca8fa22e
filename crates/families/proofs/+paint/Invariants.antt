use Prim.Native.Nat.{◌+◌, ◌*◌}
use Rattle.families.specs.Forest.{inner}
use Rattle.families.specs.Lent.{forest_of}
use Rattle.families.proofs.Turns.{Turn, Painting}
use Rattle.families.proofs.+paint.Given as goal

abbrev pub decreases-nested::Nested::paint : goal.decreases-nested::Nested::paint
decreases-nested::Nested::paint l = 2 * l.self.now.children.levels + 1

abbrev pub decreases-siblings::Siblings::paint : goal.decreases-siblings::Siblings::paint
decreases-siblings::Siblings::paint l = 2 * l.self.now.levels

abbrev pub invariant-nested::Nested::paint-loop : goal.invariant-nested::Nested::paint-loop
invariant-nested::Nested::paint-loop l =
    Turn (inner (forest_of l.self.children)) l.me l.initial.from l.initial.to l.stride l.initial.table l.table l.from l.to l.counter

abbrev pub invariant-siblings::Siblings::paint-loop : goal.invariant-siblings::Siblings::paint-loop
invariant-siblings::Siblings::paint-loop l = Painting l.self l.rest l.me l.counter l.initial.table l.table
