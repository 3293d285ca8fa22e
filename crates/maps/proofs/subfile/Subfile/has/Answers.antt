-- `has` meets its contract. Assumes nothing.
use mathlib.Core.Path.{◌≡◌, refl, ap, ◌∙◌}
use Prim.Native.Nat.{◌-◌, ◌%◌}
use native.Mathlib.Omega.{arith}
use Rattle.families.specs.Forest.{has}
use Rattle.maps.specs.Selected.{families_of}
use Rattle.maps.proofs.Mapped.{period_some, place_small, none_before, belongs_by_place}
use Rattle.maps.proofs.subfile.Subfile.has.Goals as goal
use Rattle.maps.proofs.subfile.Subfile.has.Goals.{After-selects}

pub returns-then-at-from : goal.returns-then-at-from
returns-then-at-from c = none_before c.args.self.now.ok _ (omega arith)

pub nonzero_rem-past : goal.nonzero_rem-past
nonzero_rem-past c = rw c.from-period.ensures (period_some c.args.self.now.ok)

pub overflow_cast-past : goal.overflow_cast-past
overflow_cast-past c = record { fits = rw c.from-period.ensures (place_small c.args.self.now.ok _) }

-- the place in the period, as the code and as the contract has it
place_is : (c : After-selects) → let s = c.args.self.now.selection in (c.args.x.0 - c.from-from.result) % c.from-period.result ≡ (c.args.x.0 - s.from) % s.period
place_is c = rw (c.from-from.ensures, c.from-period.ensures) refl

pub returns : goal.returns
returns c =
    let held = has (families_of c.args.self.now.selection c.args.self.now.families.now) in
    belongs_by_place c.args.self.now.ok _ (omega arith) _ ((rw c.siblings.ensures.tree at c.selects.ensures) ∙ ap held (place_is c))
