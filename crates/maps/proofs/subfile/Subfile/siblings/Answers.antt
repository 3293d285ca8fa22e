-- `siblings` meets its contract: it lends what it says, which is the selection's tree. That meets the sheet rules, with the narrower bound, and with more levels
-- too, so that a wrong number of them is told by what is lent. Assumes nothing.
use mathlib.Core.Path.{refl}
use native.Mathlib.Omega.{arith}
use Rattle.families.proofs.Rows.{lent_is}
use Rattle.families.proofs.Steps.{ruled_deeper}
use Rattle.maps.proofs.Mapped.{families_ruled}
use Rattle.maps.proofs.subfile.Subfile.siblings.Goals as goal

pub returns-clause-lent : goal.returns-clause-lent
returns-clause-lent c = record { families = refl; first = omega arith; count = omega arith; levels = omega arith }

pub returns-clause-tree : goal.returns-clause-tree
returns-clause-tree c = lent_is (returns-clause-lent c)

pub invariant_of-result : goal.invariant_of-result
invariant_of-result c = record { ruled = ruled_deeper c.args.self.now.selection.levels _ _ _ _ _ (omega arith) (families_ruled c.args.self.now.ok) }
