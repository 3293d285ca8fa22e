-- The first fault of a list of tests, and what a record without a fault is: both directions for each kind of record. Assumes nothing.
use mathlib.Core.Path.{◌≡◌, refl, sym, ◌∙◌}
use mathlib.Core.Bool.{Bool, true, false, ◌&&◌, ◌||◌, not, cond, true≢false}
use mathlib.Core.List.{List, [], ◌∷◌, ◌++◌}
use mathlib.Core.Logic.{inl, inr}
use Prim.Native.Nat.{ℕ, zero, suc, ◌+◌, ◌-◌, ◌≤◌}
use native.Mathlib.Omega.{arith}
use lib.Dec.{eqb, ltb, leb}
use lib.ListN.{length}
use borrow.Author.Tests.{ltb-false, leb-true, eqb-true, eqb-false, not-false, le-ltb, le-leb, eq-eqb, ne_eqb}
use Rattle.counting.proofs.Cases.{by_test}
use Rattle.families.specs.declared.Family.{Family}
use Rattle.families.specs.Forest.{Stride, Fits, last_byte}
use Rattle.sheets.specs.declared.records.Limits.{Limits}
use Rattle.sheets.specs.Refusals.{Test, ◌when◌, first_fault}
use Rattle.sheets.specs.Bytes.{le16}
use Rattle.sheets.specs.Records.{length_of, head_tests, family_record, bad_segment, header_tests, element_tests, family_tests, body_tests, fault}

-- ---- the first fault
pub no_fault : (k : ℕ) (b : Bool) (ts : List Test) → 1 ≤ k → first_fault ((k when b) ∷ ts) ≡ 0 → (b ≡ false) × (first_fault ts ≡ 0)
unfolding first_fault
no_fault k true ts h e = absurd (omega arith)
no_fault k false ts h e = (refl, e)

-- ---- tests that are false
neither : (a b : Bool) → (a || b) ≡ false → (a ≡ false) × (b ≡ false)
neither false b e = (refl, e)
neither true b e = absurd (true≢false e)

second_false : (a b : Bool) → a ≡ true → (a && b) ≡ false → b ≡ false
second_false a b h e = rw h at e

positive : (k : ℕ) → eqb k 0 ≡ false → 1 ≤ k
positive zero e = absurd (eqb-false 0 0 e refl)
positive (suc k) e = omega arith

not_zero : (k : ℕ) → 1 ≤ k → eqb k 0 ≡ false
not_zero k h = ne_eqb k 0 (λ e. omega arith)

same_not : (a b : ℕ) → a ≡ b → not (eqb a b) ≡ false
same_not a b e = rw (eq-eqb a b e)

not_same : (a b : ℕ) → not (eqb a b) ≡ false → a ≡ b
not_same a b e = eqb-true a b (not-false _ e)

-- ---- a record's head: its kind and its length are those expected, and its bytes are there
pub record Headed (xs : List ℕ) (kind at : ℕ) : Type 0 where
  pub kind_is : le16 xs (at + 2) ≡ kind
  pub length_is : le16 xs at ≡ length_of kind
  pub inside : at + 2 + length_of kind ≤ length xs

module _ (xs : List ℕ) (kind at : ℕ) (ts : List Test) where
  pub head_taken : first_fault (head_tests xs kind at ++ ts) ≡ 0 → Headed xs kind at × (first_fault ts ≡ 0)
  unfolding head_tests
  head_taken e =
      let short = no_fault 1 _ _ (omega arith) e in
      let kinds = no_fault 2 _ _ (omega arith) short.1 in
      let lengths = no_fault 3 _ _ (omega arith) kinds.1 in
      let bodies = no_fault 1 _ _ (omega arith) lengths.1 in
      (record { kind_is = not_same _ _ kinds.0; length_is = not_same _ _ lengths.0; inside = ltb-false _ _ bodies.0 }, bodies.1)

  -- a head with no fault is passed over
  pub headed_skip : 2 ≤ length_of kind → Headed xs kind at → first_fault (head_tests xs kind at ++ ts) ≡ first_fault ts
  unfolding head_tests first_fault
  headed_skip h H =
      rw (le-ltb (length xs) (at + 4) (omega (arith, H.inside)), same_not _ _ H.kind_is, same_not _ _ H.length_is, le-ltb (length xs) (at + 2 + length_of kind) H.inside)

-- .. so the kind that stands there is due, and the record is there to its end
pub head_done : (xs : List ℕ) (due at kind k : ℕ) → k ≡ first_fault (head_tests xs due at) → k ≡ 0 → le16 xs (at + 2) ≡ kind → (due ≡ kind) × (at + 2 + length_of kind ≤ length xs)
unfolding head_tests
head_done xs due at kind k e z q =
    let H = (head_taken xs due at [] (sym e ∙ z)).0 in
    let is-due : due ≡ kind = sym H.kind_is ∙ q in
    (is-due, rw is-due at H.inside)

-- ---- a header: 1 to 16 elements
module _ (levels : ℕ) (m : Limits) (xs : List ℕ) (at : ℕ) where
  pub header_taken : fault levels m xs 1 at ≡ 0 → Headed xs 1 at × (1 ≤ le16 xs (at + 8)) × (le16 xs (at + 8) ≤ 16)
  unfolding fault body_tests header_tests
  header_taken e =
      let head = head_taken xs 1 at _ e in
      let counts = neither _ _ (no_fault 4 _ _ (omega arith) head.1).0 in
      (head.0, positive _ counts.0, ltb-false _ _ counts.1)

  pub taken_header : Headed xs 1 at → 1 ≤ le16 xs (at + 8) → le16 xs (at + 8) ≤ 16 → fault levels m xs 1 at ≡ 0
  unfolding fault body_tests header_tests length_of first_fault
  taken_header H least most = headed_skip xs 1 at _ (omega arith) H ∙ rw (not_zero _ least, le-ltb 16 (le16 xs (at + 8)) most)

  -- ---- an element: at least one top family
  pub element_taken : fault levels m xs 2 at ≡ 0 → Headed xs 2 at × (1 ≤ le16 xs (at + 4))
  unfolding fault body_tests element_tests
  element_taken e = let head = head_taken xs 2 at _ e in (head.0, positive _ (no_fault 4 _ _ (omega arith) head.1).0)

  pub taken_element : Headed xs 2 at → 1 ≤ le16 xs (at + 4) → fault levels m xs 2 at ≡ 0
  unfolding fault body_tests element_tests length_of first_fault
  taken_element H some = headed_skip xs 2 at _ (omega arith) H ∙ rw (not_zero _ some)

-- ---- a family's segments
stride_taken : (l r s n : ℕ) → 1 ≤ n → cond (eqb n 1) (not (eqb s 0)) (ltb s (r - l + 1)) ≡ false → Stride l r s n
stride_taken l r s n some e = by_test (eqb n 1)
    (λ one. inl (eqb-true n 1 one, not_same s 0 (rw one at e)))
    (λ more. let long = ltb-false s (r - l + 1) (rw more at e) in inr (several n some (eqb-false n 1 more), omega arith))
  where
    several : (k : ℕ) → 1 ≤ k → (k ≡ 1 → ⊥) → 2 ≤ k
    several k h d = omega arith

taken_stride : (l r s n : ℕ) → Stride l r s n → cond (eqb n 1) (not (eqb s 0)) (ltb s (r - l + 1)) ≡ false
taken_stride l r s n (inl h) = rw (eq-eqb n 1 h.0, same_not s 0 h.1)
taken_stride l r s n (inr h) = rw (ne_eqb n 1 (λ e. omega arith), le-ltb s (r - l + 1) (omega arith))

module _ (f : Family) where
  pub segment_taken : bad_segment f ≡ false → (1 ≤ f.n) × (f.l ≤ f.r) × Stride f.l f.r f.s f.n
  unfolding bad_segment
  segment_taken e =
      let some = neither _ _ e in
      let forward = neither _ _ some.1 in
      (positive _ some.0, ltb-false _ _ forward.0, stride_taken _ _ _ _ (positive _ some.0) forward.1)

  pub taken_segment : 1 ≤ f.n → f.l ≤ f.r → Stride f.l f.r f.s f.n → bad_segment f ≡ false
  unfolding bad_segment
  taken_segment some forward stride = rw (not_zero f.n some, le-ltb f.r f.l forward) (taken_stride _ _ _ _ stride)

-- ---- a family where `levels` levels are left, its own among them
no_children : (levels children : ℕ) → (leb levels 1 && not (eqb children 0)) ≡ false → levels ≤ 1 → children ≡ 0
no_children levels children e h = not_same children 0 (second_false _ _ (le-leb levels 1 h) e)

no_deeper : (levels children : ℕ) → (levels ≤ 1 → children ≡ 0) → (leb levels 1 && not (eqb children 0)) ≡ false
no_deeper levels children d = by_test (leb levels 1) (λ e. rw (e, same_not children 0 (d (leb-true levels 1 e)))) (λ e. rw e)

pub record FamilyTaken (xs : List ℕ) (levels : ℕ) (m : Limits) (at : ℕ) : Type 0 where
  pub head : Headed xs 3 at
  pub room : 1 ≤ m.room
  pub fits : Fits m.from m.bound (family_record xs at).l (family_record xs at).r (family_record xs at).s (family_record xs at).n
  pub deep : levels ≤ 1 → (family_record xs at).children ≡ 0

module _ (levels : ℕ) (m : Limits) (xs : List ℕ) (at : ℕ) where
  pub family_taken : fault levels m xs 3 at ≡ 0 → FamilyTaken xs levels m at
  unfolding fault body_tests family_tests
  family_taken e =
      let f = family_record xs at in
      let head = head_taken xs 3 at _ e in
      let room = no_fault 5 _ _ (omega arith) head.1 in
      let segment = no_fault 6 _ _ (omega arith) room.1 in
      let span = no_fault 7 _ _ (omega arith) segment.1 in
      let order = no_fault 8 _ _ (omega arith) span.1 in
      let depth = no_fault 9 _ _ (omega arith) order.1 in
      let rules = segment_taken f segment.0 in
      record {
        head = head.0;
        room = positive _ room.0;
        fits = record { some = rules.0; forward = rules.1; stride = rules.2; after = ltb-false _ _ order.0; inside = ltb-false _ _ span.0 };
        deep = no_children _ _ depth.0;
      }

  pub taken_family : FamilyTaken xs levels m at → fault levels m xs 3 at ≡ 0
  unfolding fault body_tests family_tests length_of first_fault
  taken_family T =
      let f = family_record xs at in
      let fits = T.fits in
      headed_skip xs 3 at _ (omega arith) T.head
      ∙ rw (
        not_zero m.room T.room,
        taken_segment f fits.some fits.forward fits.stride,
        le-ltb m.bound (last_byte f.l f.r f.s f.n) fits.inside,
        le-ltb f.l m.from fits.after,
        no_deeper levels f.children T.deep,
      )
