-- A family with its children: what its segments select, how many before x, and the y-th inside one. Assumes nothing.
use mathlib.Core.Path.{◌≡◌, refl, sym, ap, ap₂, ◌∙◌, subst}
use mathlib.Core.Bool.{Bool, true, false, ◌&&◌}
use Prim.Native.Nat.{ℕ, ◌+◌, ◌-◌, ◌*◌, ◌%◌, ◌<◌}
use native.Mathlib.Omega.{arith}
use Rattle.counting.specs.Count.{count_below, nth}
use Rattle.counting.proofs.Nths.{Found, nth_is, nth_found}
use Rattle.families.specs.declared.Family.{Family}
use Rattle.families.specs.declared.nested.Nested.{Nested}
use Rattle.families.specs.Forest.{Forest, is_nil, has, inner, end_of, size_of, FARTHEST, RulesKept, WF}
use Rattle.families.specs.Decoded.{segments_of, leaf_of, FitsIn}
use Rattle.families.specs.Lent.{forest_of}
use Rattle.families.proofs.Division.{segments_div, leaf_div, segments_count, whole, part}
use Rattle.families.proofs.Forests.{wf_wider, inner_leaf, inner_kids, each_leaf, each_kids, end_le}
use Rattle.families.proofs.Steps.{leaf, branch}

-- the children keep the rules wherever the family's end is
pub kids_ruled : (f : Family) (kids : Forest) → FitsIn FARTHEST f → WF 0 (f.r - f.l) kids → RulesKept kids
kids_ruled f kids fits within = wf_wider kids (omega arith) (omega (arith, fits.inside)) within

module _ (e : Nested) where
  abbrev f : Family
  f = e.family

  abbrev kids : Forest
  kids = forest_of e.children

  -- x is selected where it lies in a segment, and is selected there
  pub in_segment_lem : (x : ℕ) → segments_of f (inner kids) x ≡ (leaf_of f x && inner kids ((x - f.l) % f.s))
  in_segment_lem x =
      segments_div (inner kids) f.l f.r f.s f.n x e.fits.stride
      ∙ ap (λ (b : Bool). b && inner kids ((x - f.l) % f.s)) (sym (leaf_div f.l f.r f.s f.n x e.fits.stride))

  -- without children
  pub leaf_size : (v : ℕ) → e.children.count ≡ 0 → v ≡ f.r - f.l + 1 → v ≡ count_below (inner kids) (f.r - f.l + 1)
  leaf_size v z h = h ∙ sym (each_leaf kids _ (leaf _ _ _ _ z))

  pub leaf_counts : (x v : ℕ) → e.children.count ≡ 0 → v ≡ count_below (leaf_of f) x → v ≡ count_below (segments_of f (inner kids)) x
  leaf_counts x v z h = rw (inner_leaf kids (leaf _ _ _ _ z)) h

  pub leaf_nth : (y : ℕ) → e.children.count ≡ 0 → y < count_below (inner kids) (f.r - f.l + 1) → y ≡ nth (inner kids) (f.r - f.l + 1) y
  leaf_nth y z h =
      let none : is_nil kids ≡ true = leaf _ _ _ _ z in
      sym (nth_is (inner kids) (f.r - f.l + 1) y y (omega (arith, each_leaf kids (f.r - f.l + 1) none)) (rw none refl) (each_leaf kids y none))

  -- with children: `each` is their size, and `part` their rank at d
  module _ (some : e.children.count ≡ 0 → ⊥) where
    branching : is_nil kids ≡ false
    branching = branch _ _ _ _ some

    pub kids_size : count_below (inner kids) (f.r - f.l + 1) ≡ size_of kids
    kids_size = each_kids (f.r - f.l) kids e.inside branching

    pub kids_count : (x each d rank : ℕ) → each ≡ size_of kids → d ≡ part f.l f.r f.s f.n x → rank ≡ count_below (has kids) d
        → whole f.l f.s f.n x * each + rank ≡ count_below (segments_of f (inner kids)) x
    kids_count x each d rank h g k =
        sym (segments_count (inner kids) f.l f.r f.s f.n x e.fits.stride
        ∙ ap₂ (λ (a b : ℕ). whole f.l f.s f.n x * a + b) (kids_size ∙ sym h) (rw (inner_kids kids branching) (ap (count_below (has kids)) (sym g) ∙ sym k)))

    pub kids_nth : (y v : ℕ) → y < size_of kids → v ≡ nth (has kids) (end_of kids) y → v ≡ nth (inner kids) (f.r - f.l + 1) y
    unfolding size_of
    kids_nth y v h g =
        let F : Found (has kids) (end_of kids) y v = subst (Found (has kids) (end_of kids) y) (sym g) (nth_found (has kids) (end_of kids) y h) in
        rw (inner_kids kids branching) (sym (nth_is (has kids) (f.r - f.l + 1) v y (omega (arith, F.below, end_le 0 (f.r - f.l) kids e.inside)) F.passes F.rank))
