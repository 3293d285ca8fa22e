-- What a sheet that was read has gone through: each step undone, and the shape of what was got. Assumes nothing.
use mathlib.Core.Path.{◌≡◌, refl, ap}
use mathlib.Core.List.{List, [], ◌∷◌}
use Prim.Native.Nat.{ℕ, zero, suc, ◌+◌, ◌-◌, ◌*◌, ◌≤◌}
use native.Mathlib.Omega.{arith}
use lib.ListN.{length}
use borrow.Author.Tests.{ltb-false}
use Rattle.families.specs.Forest.{Forest, nil, node, WF}
use Rattle.families.specs.Flat.{width, depth, total, totals, All}
use Rattle.sheets.specs.declared.records.Limits.{Limits}
use Rattle.sheets.specs.Refusals.{Read, got, refused, unless, and_then}
use Rattle.sheets.specs.Bytes.{le16}
use Rattle.sheets.specs.Records.{length_of, family_record, fault}
use Rattle.sheets.specs.Sheet.{top, within, beside, siblings_from, forest_from, elements_from, end_of_records, elements_of}
use Rattle.sheets.specs.Encode.{ElementRules}
use Rattle.sheets.proofs.Faults.{no_fault, Headed, FamilyTaken, family_taken, element_taken, header_taken}

-- ---- one step
pub refused_not_got : {A B : Type 0} {k p : ℕ} {x : A} → refused k p ≡ got x → B
refused_not_got e = let z : ◌≡◌ {A = ℕ} 0 1 = cc in absurd (omega arith)

pub unless_got : {A : Type 0} (k p : ℕ) (r : Read A) {x : A} → unless k p r ≡ got x → (k ≡ 0) × (r ≡ got x)
unfolding unless
unless_got zero p r e = (refl, e)
unless_got (suc k) p r e = refused_not_got e

pub then_got : {A B : Type 0} (r : Read A) (next : A → Read B) {y : B} → and_then r next ≡ got y → (x : A) × (r ≡ got x) × (next x ≡ got y)
unfolding and_then
then_got (got x) next e = (x, refl, e)
then_got (refused k p) next e = refused_not_got e

-- the tree of the family record at `at`, with its children and its younger siblings
abbrev pub node_at : List ℕ → (at : ℕ) → (kids rest : Forest) → Forest
node_at xs at kids rest = node (family_record xs at).l (family_record xs at).r (family_record xs at).s (family_record xs at).n kids rest

-- ---- one family of siblings, with its children and its younger siblings
module _ (below : Limits → (count at : ℕ) → Read Forest) (xs : List ℕ) (levels : ℕ) (m : Limits) (k at : ℕ) where
  pub record SiblingRead (F : Forest) : Type 0 where
    pub kids : Forest
    pub rest : Forest
    pub taken : FamilyTaken xs levels m at
    pub kids_read : below (within m (family_record xs at)) (family_record xs at).children (at + 22) ≡ got kids
    pub rest_read : siblings_from below xs levels (beside m (family_record xs at) (total kids)) k (at + 22 * suc (total kids)) ≡ got rest
    pub is : F ≡ node_at xs at kids rest

  pub sibling_read : (F : Forest) → siblings_from below xs levels m (suc k) at ≡ got F → SiblingRead F
  unfolding siblings_from
  sibling_read F e =
      let fine = unless_got _ _ _ e in
      let kids = then_got _ _ fine.1 in
      let rest = then_got _ _ kids.2 in
      record { kids = kids.0; rest = rest.0; taken = family_taken levels m xs at fine.0; kids_read = kids.1; rest_read = rest.1; is = (let q = rest.2 in cc) }

-- ---- INDUCTION over families that were read: what holds of none, and of one from its children and its younger siblings, holds of all.
-- Where no level is left the reader gives none whatever was asked for, so that none was has to be known
abbrev pub Claim : Type 1
Claim = (levels : ℕ) → Limits → (count at : ℕ) → Forest → Type 0

abbrev pub OfNone : Claim → Type 0
OfNone P = (levels : ℕ) (m : Limits) (at : ℕ) → P levels m 0 at nil

abbrev pub OfOne : List ℕ → Claim → Type 0
OfOne xs P =
    (levels : ℕ) (m : Limits) (k at : ℕ) (kids rest : Forest) → FamilyTaken xs (suc levels) m at
    → P levels (within m (family_record xs at)) (family_record xs at).children (at + 22) kids
    → P (suc levels) (beside m (family_record xs at) (total kids)) k (at + 22 * suc (total kids)) rest
    → P (suc levels) m (suc k) at (node_at xs at kids rest)

module _ (xs : List ℕ) (P : Claim) (none : OfNone P) (one : OfOne xs P) where
  siblings_induction : (levels : ℕ) (below : Limits → (count at : ℕ) → Read Forest)
      → ((m : Limits) (count at : ℕ) (F : Forest) → (levels ≡ 0 → count ≡ 0) → below m count at ≡ got F → P levels m count at F)
      → (count : ℕ) (m : Limits) (at : ℕ) (F : Forest) → siblings_from below xs (suc levels) m count at ≡ got F → P (suc levels) m count at F
  unfolding siblings_from
  siblings_induction levels below deeper zero m at F e = let q : nil ≡ F = cc in rw (← q) (none (suc levels) m at)
  siblings_induction levels below deeper (suc k) m at F e =
      let S = sibling_read below xs (suc levels) m k at F e in
      let kids-hold = deeper _ _ _ S.kids (λ h. S.taken.deep (omega arith)) S.kids_read in
      rw S.is (one levels m k at S.kids S.rest S.taken kids-hold (siblings_induction levels below deeper k _ _ S.rest S.rest_read))

  pub forest_induction : (levels : ℕ) (m : Limits) (count at : ℕ) (F : Forest) → (levels ≡ 0 → count ≡ 0) → forest_from xs levels m count at ≡ got F → P levels m count at F
  unfolding forest_from
  forest_induction zero m count at F leaf e = let q : nil ≡ F = cc in rw (← q, leaf refl) (none 0 m at)
  forest_induction (suc levels) m count at F leaf e = siblings_induction levels (forest_from xs levels) (forest_induction levels) count m at F e

-- ---- THE SHAPE of families that were read: as many as were asked for, the sheet rules, and 22 bytes for each
pub record Shape (xs : List ℕ) (levels : ℕ) (m : Limits) (count at : ℕ) (F : Forest) : Type 0 where
  pub wide : width F ≡ count
  pub deep : depth F ≤ levels
  pub rules : WF m.from m.bound F
  pub room : total F ≤ m.room
  pub inside : at + 22 * total F ≤ length xs

abbrev Shaped : List ℕ → Claim
Shaped xs levels m count at F = at ≤ length xs → Shape xs levels m count at F

shape_none : (xs : List ℕ) → OfNone (Shaped xs)
unfolding width depth total WF
shape_none xs levels m at there = record { wide = refl; deep = omega arith; rules = tt; room = omega arith; inside = omega arith }

pub family_inside : (xs : List ℕ) (at : ℕ) → Headed xs 3 at → at + 22 ≤ length xs
unfolding length_of
family_inside xs at H = omega (arith, H.inside)

shape_one : (xs : List ℕ) → OfOne xs (Shaped xs)
unfolding width depth total WF
shape_one xs levels m k at kids rest T kids-shape rest-shape there =
    let K = kids-shape (family_inside xs at T.head) in
    let R = rest-shape (omega (arith, K.inside)) in
    record {
      wide = ap suc R.wide;
      deep = omega (arith, K.deep, R.deep);
      rules = (T.fits, K.rules, R.rules);
      room = omega (arith, T.room, K.room, R.room);
      inside = omega (arith, R.inside);
    }

pub forest_shape : (xs : List ℕ) (levels : ℕ) (m : Limits) (count at : ℕ) (F : Forest) → (levels ≡ 0 → count ≡ 0) → at ≤ length xs → forest_from xs levels m count at ≡ got F
    → Shape xs levels m count at F
forest_shape xs levels m count at F leaf there e = forest_induction xs (Shaped xs) (shape_none xs) (shape_one xs) levels m count at F leaf e there

-- ---- one element, with its families and the elements after it
module _ (xs : List ℕ) (room k at : ℕ) where
  pub record ElementRead (Fs : List Forest) : Type 0 where
    pub families : Forest
    pub others : List Forest
    pub fine : fault 4 (top room) xs 2 at ≡ 0
    pub families_read : forest_from xs 4 (top room) (le16 xs (at + 4)) (at + 6) ≡ got families
    pub others_read : elements_from xs (room - total families) k (at + 6 + 22 * total families) ≡ got others
    pub is : Fs ≡ families ∷ others

  pub element_read : (Fs : List Forest) → elements_from xs room (suc k) at ≡ got Fs → ElementRead Fs
  unfolding elements_from
  element_read Fs e =
      let fine = unless_got _ _ _ e in
      let families = then_got _ _ fine.1 in
      let others = then_got _ _ families.2 in
      record { families = families.0; others = others.0; fine = fine.0; families_read = families.1; others_read = others.1; is = (let q = others.2 in cc) }

pub element_inside : (xs : List ℕ) (at : ℕ) → Headed xs 2 at → at + 6 ≤ length xs
unfolding length_of
element_inside xs at H = omega (arith, H.inside)

-- ---- THE SHAPE of elements that were read: 6 bytes for each, and 22 for each family
pub record ElementsShape (xs : List ℕ) (most count at : ℕ) (Fs : List Forest) : Type 0 where
  pub long : length Fs ≡ count
  pub each : All ElementRules Fs
  pub room : totals Fs ≤ most
  pub inside : at + (6 * length Fs + 22 * totals Fs) ≤ length xs

elements_shape_one : (xs : List ℕ) (room k at : ℕ) (F : Forest) (Fs : List Forest) → 1 ≤ le16 xs (at + 4) → Shape xs 4 (top room) (le16 xs (at + 4)) (at + 6) F
    → ElementsShape xs (room - total F) k (at + 6 + 22 * total F) Fs → ElementsShape xs room (suc k) at (F ∷ Fs)
unfolding All totals
elements_shape_one xs room k at F Fs some S R =
    record {
      long = ap suc R.long;
      each = (record { some = omega (arith, S.wide); levels = S.deep; families = S.rules }, R.each);
      room = omega (arith, S.room, R.room);
      inside = omega (arith, R.inside);
    }

pub elements_shape : (xs : List ℕ) (room count at : ℕ) (Fs : List Forest) → at ≤ length xs → elements_from xs room count at ≡ got Fs → ElementsShape xs room count at Fs
unfolding elements_from All totals
elements_shape xs room zero at Fs there e = let q : [] ≡ Fs = cc in rw (← q) (record { long = refl; each = tt; room = omega arith; inside = omega arith })
elements_shape xs room (suc k) at Fs there e =
    let E = element_read xs room k at Fs e in
    let taken = element_taken 4 (top room) xs at E.fine in
    let S = forest_shape xs 4 (top room) _ (at + 6) E.families (λ h. absurd (omega arith)) (element_inside xs at taken.0) E.families_read in
    rw E.is (elements_shape_one xs room k at E.families E.others taken.1 S (elements_shape xs (room - total E.families) k _ E.others (omega (arith, S.inside)) E.others_read))

-- ---- A WHOLE SHEET that was read: its header, its elements, and no byte after them
pub record SheetRead (xs : List ℕ) (Fs : List Forest) : Type 0 where
  pub header : Headed xs 1 0
  pub elements_read_lem : elements_from xs 256 (le16 xs 8) 10 ≡ got Fs
  pub long : length Fs ≡ le16 xs 8
  pub least : 1 ≤ length Fs
  pub most : length Fs ≤ 16
  pub room : totals Fs ≤ 256
  pub each : All ElementRules Fs
  pub ends : length xs ≤ end_of_records Fs

pub header_inside : (xs : List ℕ) → Headed xs 1 0 → 10 ≤ length xs
unfolding length_of
header_inside xs H = H.inside

pub sheet_read : (xs : List ℕ) (Fs : List Forest) → elements_of xs ≡ got Fs → SheetRead xs Fs
unfolding elements_of
sheet_read xs Fs e =
    let fine = unless_got _ _ _ e in
    let elements = then_got _ _ fine.1 in
    let last = unless_got _ _ _ elements.2 in
    let q : elements.0 ≡ Fs = (let r = last.1 in cc) in
    let ends : length xs ≤ end_of_records elements.0 = ltb-false _ _ (no_fault 10 _ _ (omega arith) last.0).0 in
    let header = header_taken 4 (top 256) xs 0 fine.0 in
    let read : elements_from xs 256 (le16 xs 8) 10 ≡ got Fs = rw q at elements.1 in
    let S = elements_shape xs 256 (le16 xs 8) 10 Fs (header_inside xs header.0) read in
    record {
      header = header.0;
      elements_read_lem = read;
      long = S.long;
      least = omega (arith, header.1, S.long);
      most = omega (arith, header.2, S.long);
      room = S.room;
      each = S.each;
      ends = rw q at ends;
    }
