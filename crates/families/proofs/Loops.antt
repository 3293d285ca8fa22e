-- One turn of the loops over siblings: membership, end, size, rank and inverse by the eldest and the rest. Assumes nothing.
use mathlib.Core.Path.{◌≡◌, refl, sym, ap, ◌∙◌}
use mathlib.Core.Bool.{true, false, ◌||◌, or-false, true≢false}
use mathlib.Core.Logic.{inl, inr, ⊎_elim}
use Prim.Native.Nat.{ℕ, ◌+◌, ◌-◌, ◌*◌, ◌/◌, ◌%◌, ◌≤◌, ◌<◌, ◌^◌, max}
use native.Mathlib.Nat.{div-lt_iff_lt-mul, le-mul_of_pos_right, mod-lt}
use native.Mathlib.Omega.{arith}
use Rattle.counting.specs.Count.{count_below, nth}
use Rattle.counting.proofs.Cases.{lt_or_le}
use Rattle.counting.proofs.Counts.{count_none}
use Rattle.counting.proofs.Nths.{nth_found}
use Rattle.families.specs.declared.Family.{Family}
use Rattle.families.specs.declared.nested.Nested.{Nested}
use Rattle.families.specs.declared.siblings.Siblings.{Siblings}
use Rattle.families.specs.Forest.{Forest, nil, node, has, inner, last_byte, end_of, size_of, Stride, WF, FARTHEST, RulesKept, Sound}
use Rattle.families.specs.Decoded.{segments_of, leaf_of, FitsIn, forest_at}
use Rattle.families.specs.Lent.{forest_of, Split}
use Rattle.families.proofs.Division.{segments_after}
use Rattle.families.proofs.Forests.{wf_wider, ruled, rest_none, rank_node, size_node, end_le, positive, nth_here, nth_later}
use Rattle.families.proofs.NestedFamily.{in_segment_lem}
use Rattle.families.proofs.Steps.{none_left, leaf, branch}

-- ---- what is left of the siblings after i turns
pub record Rest (all rest : Siblings) (i : ℕ) : Type 0 where
  pub levels : rest.levels ≡ all.levels
  pub count : rest.count + i ≡ all.count

pub rest_first : (all : Siblings) → Rest all all 0
rest_first all = record { levels = refl; count = omega arith }

module _ {all rest : Siblings} {i : ℕ} (L : Rest all rest i) where
  pub rest_some : i < all.count → 1 ≤ rest.count
  rest_some h = omega (arith, L.count)

  pub rest_next : {younger : Siblings} {eldest : Nested} → Split rest eldest younger → Rest all younger (i + 1)
  rest_next S = record { levels = S.same ∙ L.levels; count = omega (arith, L.count, S.left) }

  pub rest_falls : {younger : Siblings} {eldest : Nested} → Split rest eldest younger → all.levels ≡ eldest.children.levels + 1
  rest_falls S = omega (arith, S.deep, L.levels)

  pub rest_nil : all.count ≤ i → forest_of rest ≡ nil
  rest_nil h = none_left _ _ _ _ (omega (arith, L.count))

-- ---- one turn: the eldest and the younger siblings
module _ {all younger : Siblings} {eldest : Nested} (S : Split all eldest younger) where
  abbrev f : Family
  f = eldest.family

  abbrev F : Forest
  F = forest_of all

  abbrev K : Forest
  K = forest_of eldest.children

  abbrev R : Forest
  R = forest_of younger

  node_ruled : RulesKept (node f.l f.r f.s f.n K R)
  node_ruled = rw S.is at all.ruled

  -- membership
  has_step : (x : ℕ) → has F x ≡ (segments_of f (inner K) x || has R x)
  unfolding has
  has_step x = ap (λ (G : Forest). has G x) S.is

  -- x lies in a segment, so no younger sibling has it
  rest_apart : (x : ℕ) → leaf_of f x ≡ true → has R x ≡ false
  rest_apart x e =
      rest_none 0 FARTHEST f.l f.r f.s f.n K R node_ruled x
      (⊎_elim (λ h. absurd (true≢false (sym e ∙ segments_after (λ _. true) f.l f.r f.s f.n x h))) (λ h. h) (lt_or_le (last_byte f.l f.r f.s f.n) x))

  has_inside : (x : ℕ) → leaf_of f x ≡ true → has F x ≡ inner K ((x - f.l) % f.s)
  has_inside x e = has_step x ∙ rw (rest_apart x e, in_segment_lem eldest x, e) (or-false _)

  pub has_leaf : (x : ℕ) → leaf_of f x ≡ true → eldest.children.count ≡ 0 → has F x ≡ true
  has_leaf x e z = has_inside x e ∙ rw (leaf _ _ _ _ z) refl

  pub has_kids : (x : ℕ) → leaf_of f x ≡ true → (eldest.children.count ≡ 0 → ⊥) → has F x ≡ has K ((x - f.l) % f.s)
  has_kids x e z = has_inside x e ∙ rw (branch _ _ _ _ z) refl

  pub has_rest : (x : ℕ) → leaf_of f x ≡ false → has F x ≡ has R x
  has_rest x e = has_step x ∙ rw (in_segment_lem eldest x, e) refl

  pub rank_step : (x : ℕ) → count_below (has F) x ≡ count_below (segments_of f (inner K)) x + count_below (has R) x
  rank_step x = ap (λ (G : Forest). count_below (has G) x) S.is ∙ rank_node 0 FARTHEST f.l f.r f.s f.n K R node_ruled x

  pub end_step : end_of F ≡ max (last_byte f.l f.r f.s f.n + 1) (end_of R)
  unfolding end_of
  end_step = ap end_of S.is

  -- size and inverse: `each` is what one segment selects
  module _ (each : ℕ) (h : each ≡ count_below (inner K) (f.r - f.l + 1)) where
    pub size_step : size_of F ≡ f.n * each + size_of R
    size_step = ap size_of S.is ∙ size_node 0 FARTHEST f.l f.r f.s f.n K R node_ruled ∙ ap (λ (e : ℕ). f.n * e + size_of R) (sym h)

    -- the y-th offset is place v of segment y / each
    pub nth_in : (y v : ℕ) → y < f.n * each → v ≡ nth (inner K) (f.r - f.l + 1) (y % each)
        → f.l + y / each * f.s + v ≡ nth (has F) (end_of F) y
    nth_in y v g k = rw (S.is, k, h) (sym (nth_here 0 FARTHEST f.l f.r f.s f.n K R node_ruled y (rw h at g)))

    -- or it is in the rest
    pub nth_rest : (y : ℕ) → f.n * each ≤ y → y < size_of F → nth (has F) (end_of F) y ≡ nth (has R) (end_of R) (y - f.n * each)
    nth_rest y g k = rw (S.is, h) (nth_later 0 FARTHEST f.l f.r f.s f.n K R node_ruled y (rw h at g) (rw S.is at k))

    -- the place lies in the segment
    pub place_lt : (y : ℕ) → y < f.n * each → y % each < count_below (inner K) (f.r - f.l + 1)
    place_lt y g = omega (arith, mod-lt y (positive f.n each y g))

  -- where the families end within 32 bits
  module _ (sound : Sound F) where
    node_sound : Sound (node f.l f.r f.s f.n K R)
    node_sound = rw S.is at sound

    pub sound_fits : FitsIn (2 ^ 32 - 1) f
    sound_fits = (ruled node_sound).fits

    pub sound_rest : Sound R
    sound_rest = wf_wider R (omega arith) (omega arith) (ruled node_sound).rest_ok

    -- a segment's number has 32 bits
    pub number_fits : (each y : ℕ) → y < f.n * each → y / each < 2 ^ 32
    number_fits each y g = omega (arith, (div-lt_iff_lt-mul {k = each} {x = y} {y = f.n} (positive f.n each y g)).1 g, few sound_fits.stride)
      where
        few : Stride f.l f.r f.s f.n → f.n ≤ 2 ^ 32
        few (inl e) = omega arith
        few (inr e) = omega (arith, le-mul_of_pos_right {m = f.s} (f.n - 1) (omega arith), sound_fits.inside)

-- the y-th offset is below the bound
pub nth_le : (F : Forest) (b y : ℕ) → WF 0 b F → y < size_of F → nth (has F) (end_of F) y ≤ b
unfolding size_of
nth_le F b y w h = omega (arith, (nth_found (has F) (end_of F) y h).below, end_le 0 b F w)

-- ---- nothing is left
pub has_none : (levels : ℕ) (look : ℕ → Family) (at left x : ℕ) → left ≡ 0 → has (forest_at levels look at left) x ≡ false
unfolding has
has_none levels look at left x e = rw (none_left levels look at left e) refl

pub rank_none : (levels : ℕ) (look : ℕ → Family) (at left x : ℕ) → left ≡ 0 → count_below (has (forest_at levels look at left)) x ≡ 0
rank_none levels look at left x e = count_none _ x (λ y _. has_none levels look at left y e)

pub nil_has : (x : ℕ) → has nil x ≡ false
unfolding has
nil_has x = refl

pub nil_end : end_of nil ≡ 0
unfolding end_of
nil_end = refl

pub nil_rank : (x : ℕ) → count_below (has nil) x ≡ 0
nil_rank x = count_none _ x (λ y _. nil_has y)

pub nil_size : size_of nil ≡ 0
unfolding size_of end_of
nil_size = nil_rank 0
