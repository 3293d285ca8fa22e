-- Encode, then read: what stands in a sheet as bytes is got, so the sheet of trees that meet the rules gives them back. Assumes nothing.
use mathlib.Core.Path.{◌≡◌, refl, sym, ap, ◌∙◌}
use mathlib.Core.List.{List, [], ◌∷◌, ◌++◌, append_assoc, append-nil}
use Prim.Native.Nat.{ℕ, zero, suc, ◌+◌, ◌-◌, ◌*◌, ◌≤◌}
use native.Mathlib.Omega.{arith}
use lib.ListN.{length, drop, length-append, length-drop}
use lib.Seq.{drop-drop, drop_at}
use borrow.Author.Tests.{le-ltb}
use Rattle.families.specs.declared.Family.{Family}
use Rattle.families.specs.Forest.{Forest, nil, node, WF}
use Rattle.families.specs.Flat.{width, depth, total, totals, All}
use Rattle.sheets.specs.declared.records.Limits.{Limits}
use Rattle.sheets.specs.Refusals.{Read, got, unless, and_then, first_fault}
use Rattle.sheets.specs.Bytes.{le16, le32, two, four}
use Rattle.sheets.specs.Records.{length_of, family_record, fault}
use Rattle.sheets.specs.Sheet.{top, within, beside, siblings_from, forest_from, elements_from, end_of_records, elements_of}
use Rattle.sheets.specs.Encode.{family_bytes, forest_bytes, element_bytes, elements_bytes, encode, Rules, ElementRules}
use Rattle.sheets.proofs.Descent.{none_read}
use Rattle.sheets.proofs.Faults.{Headed, FamilyTaken, taken_family, taken_element, taken_header}
use Rattle.sheets.proofs.Numbers.{two_read, four_read}

-- ---- how long the bytes are: 22 a family, 6 an element, 10 the header
length_family : (l r s n children : ℕ) → length (family_bytes l r s n children) ≡ 22
unfolding family_bytes two four
length_family l r s n children = refl

pub length_forest : (F : Forest) → length (forest_bytes F) ≡ 22 * total F
unfolding forest_bytes total
length_forest nil = refl
length_forest (node l r s n kids rest) =
    simp length-append (omega (arith, length_family l r s n (width kids), length_forest kids, length_forest rest))

length_element : (F : Forest) → length (element_bytes F) ≡ 6 + 22 * total F
unfolding element_bytes two
length_element F = omega (arith, length_forest F)

pub length_elements : (Fs : List Forest) → length (elements_bytes Fs) ≡ 6 * length Fs + 22 * totals Fs
unfolding elements_bytes totals
length_elements [] = refl
length_elements (F ∷ Fs) = simp length-append (omega (arith, length_element F, length_elements Fs))

length_sheet : (d : ℕ) (Fs : List Forest) → length (encode d Fs) ≡ end_of_records Fs
unfolding encode two four
length_sheet d Fs = omega (arith, length_elements Fs)

-- ---- bytes that stand at `at`: the sheet is long enough, and what follows them stands behind
pub stands : (xs ys rest : List ℕ) (at n : ℕ) → length ys ≡ n → 1 ≤ n → drop at xs ≡ ys ++ rest → at + n ≤ length xs
stands xs ys rest at n h some e = omega (arith, length-drop at xs, ap length e, length-append ys rest)

pub behind : (xs ys rest : List ℕ) (at n : ℕ) → length ys ≡ n → drop at xs ≡ ys ++ rest → drop (at + n) xs ≡ rest
behind xs ys rest at n h e = sym (drop-drop n at xs) ∙ ap (drop n) e ∙ drop_at ys rest n h

head_there : (xs : List ℕ) (kind at : ℕ) (rest : List ℕ) → at + 2 + length_of kind ≤ length xs → drop at xs ≡ two (length_of kind) ++ (two kind ++ rest)
    → Headed xs kind at × (drop (at + 4) xs ≡ rest)
head_there xs kind at rest room e =
    let lengths = two_read xs at (at + 2) (length_of kind) _ refl e in
    let kinds = two_read xs (at + 2) (at + 4) kind rest (omega arith) lengths.1 in
    (record { kind_is = kinds.0; length_is = lengths.0; inside = room }, kinds.1)

-- ---- a family record
abbrev family_of : (l r s n : ℕ) (kids : Forest) → Family
family_of l r s n kids = record { l = l; r = r; s = s; n = n; children = width kids; span = 0 }

family_there : (xs : List ℕ) (at l r s n : ℕ) (kids : Forest) (rest : List ℕ) → drop at xs ≡ family_bytes l r s n (width kids) ++ rest
    → Headed xs 3 at × (family_record xs at ≡ family_of l r s n kids) × (drop (at + 22) xs ≡ rest)
unfolding family_bytes family_record length_of
family_there xs at l r s n kids rest e =
    let room = stands xs (family_bytes l r s n (width kids)) rest at 22 (length_family l r s n (width kids)) (omega arith) e in
    let head = head_there xs 3 at (four l ++ (four r ++ (four s ++ (four n ++ (two (width kids) ++ rest))))) (omega arith) (e ∙ simp append_assoc) in
    let ls = four_read xs (at + 4) (at + 8) l _ (omega arith) head.1 in
    let rs = four_read xs (at + 8) (at + 12) r _ (omega arith) ls.1 in
    let ss = four_read xs (at + 12) (at + 16) s _ (omega arith) rs.1 in
    let ns = four_read xs (at + 16) (at + 20) n _ (omega arith) ss.1 in
    let ks = two_read xs (at + 20) (at + 22) (width kids) rest (omega arith) ns.1 in
    (head.0, rw (ls.0, rs.0, ss.0, ns.0, ks.0), ks.1)

-- one family of siblings is got with its children and its younger siblings
sibling_got : (below : Limits → (count at : ℕ) → Read Forest) (xs : List ℕ) (levels : ℕ) (m : Limits) (k at : ℕ) (f : Family) (kids rest : Forest)
    → family_record xs at ≡ f → fault levels m xs 3 at ≡ 0 → below (within m f) f.children (at + 22) ≡ got kids
    → siblings_from below xs levels (beside m f (total kids)) k (at + 22 * suc (total kids)) ≡ got rest
    → siblings_from below xs levels m (suc k) at ≡ got (node f.l f.r f.s f.n kids rest)
unfolding siblings_from unless and_then
sibling_got below xs levels m k at f kids rest is fine kids-got rest-got = rw (fine, is, kids-got, rest-got)

-- ---- families that meet the rules and stand at `at`, whatever stands before and after them
pub record Ready (xs : List ℕ) (levels : ℕ) (m : Limits) (at : ℕ) (F : Forest) (tail : List ℕ) : Type 0 where
  pub bytes : drop at xs ≡ forest_bytes F ++ tail
  pub rules : WF m.from m.bound F
  pub deep : depth F ≤ levels
  pub room : total F ≤ m.room

no_level : (l r s n : ℕ) (kids rest : Forest) → depth (node l r s n kids rest) ≤ 0 → ⊥
unfolding depth
no_level l r s n kids rest h = omega arith

childless : (kids : Forest) → depth kids ≤ 0 → width kids ≡ 0
unfolding width
childless nil h = refl
childless (node l r s n kids rest) h = absurd (no_level l r s n kids rest h)

module _ (xs : List ℕ) (levels : ℕ) (m : Limits) (at l r s n : ℕ) (kids rest : Forest) (tail : List ℕ) (R : Ready xs (suc levels) m at (node l r s n kids rest) tail) where
  there : Headed xs 3 at × (family_record xs at ≡ family_of l r s n kids) × (drop (at + 22) xs ≡ forest_bytes kids ++ (forest_bytes rest ++ tail))
  unfolding forest_bytes
  there = family_there xs at l r s n kids _ (R.bytes ∙ simp append_assoc)

  taken : FamilyTaken xs (suc levels) m at
  unfolding WF depth total
  taken =
      record {
        head = there.0;
        room = omega (arith, R.room);
        fits = rw there.1 R.rules.0;
        deep = rw there.1 (λ h. childless kids (omega (arith, R.deep)));
      }

  kids_ready : Ready xs levels (within m (family_of l r s n kids)) (at + 22) kids (forest_bytes rest ++ tail)
  unfolding WF depth total
  kids_ready = record { bytes = there.2; rules = R.rules.1; deep = omega (arith, R.deep); room = omega (arith, R.room) }

  rest_ready : Ready xs (suc levels) (beside m (family_of l r s n kids) (total kids)) (at + 22 * suc (total kids)) rest tail
  unfolding WF depth total
  rest_ready =
      let z : at + 22 + 22 * total kids ≡ at + 22 * suc (total kids) = omega arith in
      record {
        bytes = rw z at (behind xs (forest_bytes kids) _ (at + 22) (22 * total kids) (length_forest kids) there.2);
        rules = R.rules.2;
        deep = omega (arith, R.deep);
        room = omega (arith, R.room);
      }

  node_got : forest_from xs levels (within m (family_of l r s n kids)) (width kids) (at + 22) ≡ got kids
      → forest_from xs (suc levels) (beside m (family_of l r s n kids) (total kids)) (width rest) (at + 22 * suc (total kids)) ≡ got rest
      → forest_from xs (suc levels) m (width (node l r s n kids rest)) at ≡ got (node l r s n kids rest)
  unfolding forest_from width
  node_got kids-got rest-got =
      sibling_got (forest_from xs levels) xs (suc levels) m (width rest) at (family_of l r s n kids) kids rest there.1 (taken_family (suc levels) m xs at taken) kids-got rest-got

pub forest_got : (xs : List ℕ) (levels : ℕ) (m : Limits) (at : ℕ) (F : Forest) (tail : List ℕ) → Ready xs levels m at F tail → forest_from xs levels m (width F) at ≡ got F
unfolding width
forest_got xs levels m at nil tail R = none_read xs levels m at
forest_got xs zero m at (node l r s n kids rest) tail R = absurd (no_level l r s n kids rest R.deep)
forest_got xs (suc levels) m at (node l r s n kids rest) tail R =
    node_got xs levels m at l r s n kids rest tail R
    (forest_got xs levels _ _ kids _ (kids_ready xs levels m at l r s n kids rest tail R))
    (forest_got xs (suc levels) _ _ rest _ (rest_ready xs levels m at l r s n kids rest tail R))

-- ---- elements
element_there : (xs : List ℕ) (at : ℕ) (F : Forest) (rest : List ℕ) → drop at xs ≡ element_bytes F ++ rest
    → Headed xs 2 at × (le16 xs (at + 4) ≡ width F) × (drop (at + 6) xs ≡ forest_bytes F ++ rest)
unfolding element_bytes length_of
element_there xs at F rest e =
    let room = stands xs (element_bytes F) rest at (6 + 22 * total F) (length_element F) (omega arith) e in
    let head = head_there xs 2 at (two (width F) ++ (forest_bytes F ++ rest)) (omega arith) (e ∙ simp append_assoc) in
    let tops = two_read xs (at + 4) (at + 6) (width F) _ (omega arith) head.1 in
    (head.0, tops.0, tops.1)

element_got : (xs : List ℕ) (room k at tops : ℕ) (F : Forest) (Fs : List Forest) → fault 4 (top room) xs 2 at ≡ 0 → le16 xs (at + 4) ≡ tops
    → forest_from xs 4 (top room) tops (at + 6) ≡ got F → elements_from xs (room - total F) k (at + 6 + 22 * total F) ≡ got Fs → elements_from xs room (suc k) at ≡ got (F ∷ Fs)
unfolding elements_from unless and_then
element_got xs room k at tops F Fs fine tops_are families_got others-got = rw (fine, tops_are, families_got, others-got)

pub elements_got : (xs : List ℕ) (room at : ℕ) (Fs : List Forest) (tail : List ℕ) → drop at xs ≡ elements_bytes Fs ++ tail → All ElementRules Fs → totals Fs ≤ room
    → elements_from xs room (length Fs) at ≡ got Fs
unfolding elements_from elements_bytes All totals
elements_got xs room at [] tail e each fit = refl
elements_got xs room at (F ∷ Fs) tail e each fit =
    let rules = each.0 in
    let T = element_there xs at F (elements_bytes Fs ++ tail) (e ∙ simp append_assoc) in
    let fine = taken_element 4 (top room) xs at T.0 (omega (arith, T.1, rules.some)) in
    let ready : Ready xs 4 (top room) (at + 6) F (elements_bytes Fs ++ tail) = record { bytes = T.2; rules = rules.families; deep = rules.levels; room = omega arith } in
    let next = behind xs (forest_bytes F) (elements_bytes Fs ++ tail) (at + 6) (22 * total F) (length_forest F) T.2 in
    element_got xs room (length Fs) at (width F) F Fs fine T.1 (forest_got xs 4 (top room) (at + 6) F _ ready)
    (elements_got xs (room - total F) (at + 6 + 22 * total F) Fs tail next each.1 (omega arith))

-- ---- THE SHEET of trees that meet the rules gives them back
sheet_got : (xs : List ℕ) (count : ℕ) (Fs : List Forest) → fault 4 (top 256) xs 1 0 ≡ 0 → le16 xs 8 ≡ count → elements_from xs 256 count 10 ≡ got Fs
    → length xs ≤ end_of_records Fs → elements_of xs ≡ got Fs
unfolding elements_of unless and_then first_fault
sheet_got xs count Fs fine count_is elements_are end = rw (fine, count_is, elements_are, le-ltb (end_of_records Fs) (length xs) end)

pub rules_read : (d : ℕ) (Fs : List Forest) → Rules d Fs → (elements_of (encode d Fs) ≡ got Fs) × (le32 (encode d Fs) 4 ≡ d)
unfolding encode length_of
rules_read d Fs R =
    let xs = encode d Fs in
    let long = length_sheet d Fs in
    let head = head_there xs 1 0 _ (omega arith) refl in
    let ds = four_read xs 4 8 d _ refl head.1 in
    let counts = two_read xs 8 10 (length Fs) _ refl ds.1 in
    let fine = taken_header 4 (top 256) xs 0 head.0 (omega (arith, counts.0, R.least)) (omega (arith, counts.0, R.most)) in
    let all = elements_got xs 256 10 Fs [] (counts.1 ∙ sym (append-nil _)) R.each R.room in
    (sheet_got xs (length Fs) Fs fine counts.0 all (omega arith), ds.0)
