-- What `read_family` knows on its way: a record without a fault, the children that were read, and the room with both. Assumes nothing.
use mathlib.Core.Path.{◌≡◌, refl, ap₂, ◌∙◌}
use mathlib.Core.List.{List, [], ◌∷◌, ◌++◌, append-nil}
use mathlib.Core.Logic.{⊎_elim}
use Prim.Native.Nat.{ℕ, suc, ◌+◌, ◌-◌, ◌*◌, ◌/◌, ◌≤◌, ◌<◌, max}
use native.Mathlib.Omega.{arith}
use lib.ListN.{length, take, drop, set}
use lib.Seq.{drop-drop}
use Rattle.families.specs.declared.Family.{Family}
use Rattle.families.specs.Forest.{Forest, nil, node, end_of}
use Rattle.families.specs.Flat.{width, total, flat}
use Rattle.counting.proofs.Cases.{lt_or_le}
use Rattle.sheets.specs.declared.records.Limits.{Limits}
use Rattle.sheets.specs.declared.trees.Step.{Step}
use Rattle.std.specs.Prelude.{Ok}
use Rattle.sheets.specs.Refusals.{got}
use Rattle.sheets.specs.Records.{family_record, last_of, fault}
use Rattle.sheets.specs.Sheet.{within, forest_from}
use Rattle.sheets.specs.Steps.{Stepped, Written}
use Rattle.sheets.proofs.Faults.{FamilyTaken, family_taken}
use Rattle.sheets.proofs.Shapes.{node_at, forest_shape, family_inside}
use Rattle.sheets.proofs.Lent.{part_lent, part_back}
use Rattle.sheets.proofs.Descent.{children, none_after, children_got, step_got}

-- ---- a family with its children in front of the room
abbrev pub spanned : Family → (span : ℕ) → Family
spanned f k = record { l = f.l; r = f.r; s = f.s; n = f.n; children = f.children; span = k }

family_with_kids : (f : Family) (kids : Forest) (fs : List Family)
    → let g : Family = record { l = f.l; r = f.r; s = f.s; n = f.n; children = width kids; span = suc (total kids) } in
    let F = node f.l f.r f.s f.n kids nil in
    g ∷ (flat kids ++ drop (total kids) (drop 1 fs)) ≡ flat F ++ drop (total F) fs
unfolding flat total
family_with_kids f kids fs =
    let size : 1 + total kids ≡ suc (total kids + 0) = omega arith in
    rw (append-nil (flat kids), drop-drop (total kids) 1 fs, size) refl

-- the first place of the room, behind which the children were written
first_set : (fs gs : List Family) (f : Family) → 1 ≤ length fs → set (take 1 fs ++ gs) 0 f ≡ f ∷ gs
first_set [] gs f h = absurd (omega arith)
first_set (g ∷ fs) gs f h = refl

-- ---- the records' length tells how many families were read
pub families_read : (at k : ℕ) → (at + 22 * k - at) / 22 ≡ k
families_read at k = omega arith

-- ---- no children where no level is left for them
pub children_deep : (levels k : ℕ) → k < 65536 → (levels ≤ 1 → k ≡ 0) → k ≤ 65535 * (levels - 1)
children_deep levels k h d = ⊎_elim (λ (l : 1 < levels). omega arith) (λ (l : levels ≤ 1). omega (arith, d l)) (lt_or_le 1 levels)

-- ---- a family without a fault, whose children were read
pub record KidsRead (xs : List ℕ) (levels : ℕ) (m : Limits) (at : ℕ) (r : Step) : Type 0 where
  pub kids : Forest
  pub is : children xs (levels - 1) m at ≡ got kids
  pub wide : width kids ≡ (family_record xs at).children
  pub place : r.place ≡ at + 22 * suc (total kids)
  pub room : suc (total kids) ≤ m.room
  pub inside : r.place ≤ length xs

module _ (xs : List ℕ) (levels : ℕ) (m : Limits) (at : ℕ) (deep : 1 ≤ levels) (fine : fault levels m xs 3 at ≡ 0) where
  pub taken : FamilyTaken xs levels m at
  taken = family_taken levels m xs at fine

  pub kids_read : (r : Step) → Stepped (at + 22) 0 (children xs (levels - 1) m at) (Ok r) → KidsRead xs levels m at r
  kids_read r q =
      let S = step_got (at + 22) 0 r (children xs (levels - 1) m at) q in
      let H = forest_shape xs (levels - 1) (within m (family_record xs at)) (family_record xs at).children (at + 22) S.forest (λ h. taken.deep (omega arith)) (family_inside xs at taken.head) S.is in
      record { kids = S.forest; is = S.is; wide = H.wide; place = omega (arith, S.place); room = omega (arith, H.room, taken.room); inside = omega (arith, S.place, H.inside) }

  module _ (r : Step) (K : KidsRead xs levels m at r) where
    family_got : forest_from xs levels m 1 at ≡ got (node_at xs at K.kids nil)
    family_got = children_got xs levels m 1 at deep (omega arith) fine K.kids K.is ∙ none_after xs levels m at K.kids

    pub family_step : Stepped at m.from (forest_from xs levels m 1 at) (Ok (record { place = r.place; end = last_of (family_record xs at) + 1 }))
    unfolding total end_of
    family_step =
        let f = family_record xs at in
        let p : r.place ≡ at + 22 * suc (total K.kids + 0) = omega (arith, K.place) in
        let q : last_of f + 1 ≡ max m.from (max (last_of f + 1) 0) = omega (arith, taken.fits.after, taken.fits.forward) in
        rw family_got (ap₂ (λ (a b : ℕ). record { place = a; end = b }) p q)

    -- the children, written behind the first place, and then the family itself
    pub family_written : (before kids : List Family) (n : ℕ) (g : Family) → 1 ≤ length before → n ≡ length before - 1
        → Written (children xs (levels - 1) m at) (take n (drop 1 before)) kids → g ≡ spanned (family_record xs at) (suc (total K.kids))
        → Written (forest_from xs levels m 1 at) before (set (take 1 before ++ (kids ++ drop n (drop 1 before))) 0 g)
    unfolding Written
    family_written before kids n g room e w q =
        let was : kids ≡ flat K.kids ++ drop (total K.kids) (drop 1 before) = rw (K.is, part_lent 1 before n e) at w in
        rw (family_got, part_back 1 before kids n e, first_set before kids g room, was, q, ← K.wide) (family_with_kids (family_record xs at) K.kids before)
