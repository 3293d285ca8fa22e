-- `split_first` meets its contract: the eldest has a segment, so it is in the list, and by the sheet rules its children keep them too, and so do
-- the younger siblings. Assumes nothing.
use mathlib.Core.Path.{refl}
use native.Mathlib.Omega.{arith}
use Rattle.families.specs.Decoded.{family_in}
use Rattle.families.proofs.NestedFamily.{kids_ruled}
use Rattle.families.proofs.Steps.{kids_of, eldest, listed}
use Rattle.families.proofs.siblings.Siblings.split_first.Goals as goal

pub bounds-self-self : goal.bounds-self-self
bounds-self-self c = listed c.args.self.now c.requires

pub offset_bounds-self-self : goal.offset_bounds-self-self
offset_bounds-self-self c = omega (arith, listed c.args.self.now c.requires)

pub overflow_add-children : goal.overflow_add-children
overflow_add-children c = omega (arith, listed c.args.self.now c.requires)

pub overflow_sub-children : goal.overflow_sub-children
overflow_sub-children c = (eldest c.args.self.now c.requires).deep

pub invariant_of-children : goal.invariant_of-children
invariant_of-children c =
    let s = c.args.self.now in
    let f = family_in s.families.now s.first in
    let S = eldest s c.requires in
    record { ruled = kids_ruled f (kids_of s.levels (family_in s.families.now) s.first f) S.fits S.kids_ok }

pub invariant_of-result : goal.invariant_of-result
invariant_of-result c = let S = eldest c.args.self.now c.requires in record { fits = S.fits; inside = S.kids_ok }

pub invariant_of-younger : goal.invariant_of-younger
invariant_of-younger c = record { ruled = (eldest c.args.self.now c.requires).rest_ok }

pub returns : goal.returns
returns c =
    let S = eldest c.args.self.now c.requires in
    record { is = S.is; deep = omega (arith, S.deep); same = refl; left = omega (arith, c.requires) }
