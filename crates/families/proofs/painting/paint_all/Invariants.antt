use mathlib.Core.Bool.{true}
use Rattle.families.specs.Owners.{painted}
use Rattle.families.proofs.Filling.{Filled}
use Rattle.families.proofs.painting.paint_all.Given as goal

abbrev pub invariant-loop-v : goal.invariant-loop-v
invariant-loop-v l = Filled 0 (painted (λ _. true) l.me l.initial.table) l.initial.table l.table l.v-index
