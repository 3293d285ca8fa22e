-- `rank` meets its contract. Assumes nothing.
use mathlib.Core.Path.{◌≡◌, refl, ap, ◌∙◌}
use Prim.Native.Nat.{◌+◌, ◌-◌, ◌*◌, ◌/◌, ◌%◌, ◌≤◌}
use native.Mathlib.Omega.{arith}
use Rattle.counting.specs.Count.{count_below}
use Rattle.families.specs.Forest.{has}
use Rattle.maps.specs.Selected.{families_of, belongs}
use Rattle.maps.proofs.Mapped.{period_some, place_small, rank_by_periods, rank_small}
use Rattle.maps.proofs.subfile.Subfile.rank.Goals as goal
use Rattle.maps.proofs.subfile.Subfile.rank.Goals.{After-rank-part}

-- the place in the period, as the code and as the contract has it, and its rank
place_is : (c : After-rank-part) → let s = c.args.self.now.selection in c.saturating_sub-past.result % c.from-period.result ≡ (c.args.x.0 - s.from) % s.period
place_is c = rw (c.saturating_sub-past.ensures, c.from-from.ensures, c.from-period.ensures) refl

part_is : (c : After-rank-part)
    → let s = c.args.self.now.selection in c.rank-part.result ≡ count_below (has (families_of s c.args.self.now.families.now)) ((c.args.x.0 - s.from) % s.period)
part_is c =
    (rw c.siblings.ensures.tree at c.rank-part.ensures) ∙ ap (count_below (has (families_of c.args.self.now.selection c.args.self.now.families.now))) (place_is c)

counted : (c : After-rank-part) → c.saturating_sub-past.result / c.from-period.result * c.from-size.result + c.rank-part.result
    ≡ count_below (belongs c.args.self.now.selection c.args.self.now.families.now) c.args.x.0
counted c =
    rw (c.saturating_sub-past.ensures, c.from-from.ensures, c.from-period.ensures, c.from-size.ensures) (rank_by_periods c.args.self.now.ok _ _ (part_is c))

small : (c : After-rank-part) → c.saturating_sub-past.result / c.from-period.result * c.from-size.result + c.rank-part.result ≤ c.args.x.0
small c =
    rw (c.saturating_sub-past.ensures, c.from-from.ensures, c.from-period.ensures, c.from-size.ensures) (rank_small c.args.self.now.ok _ _ (part_is c))

pub nonzero_div-whole : goal.nonzero_div-whole
nonzero_div-whole c = rw c.from-period.ensures (period_some c.args.self.now.ok)

pub nonzero_rem-past : goal.nonzero_rem-past
nonzero_rem-past c = rw c.from-period.ensures (period_some c.args.self.now.ok)

pub overflow_cast-past : goal.overflow_cast-past
overflow_cast-past c = record { fits = rw c.from-period.ensures (place_small c.args.self.now.ok _) }

pub overflow_mul-result : goal.overflow_mul-result
overflow_mul-result c = omega (arith, small c)

pub overflow_add-result : goal.overflow_add-result
overflow_add-result c = omega (arith, small c)

pub returns : goal.returns
returns c = counted c
