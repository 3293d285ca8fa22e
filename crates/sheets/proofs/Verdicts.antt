-- When each number of 01's table is the first: one law a row. Assumes nothing.
use mathlib.Core.Path.{◌≡◌, refl, sym, ◌∙◌}
use mathlib.Core.Bool.{Bool, true, false, ◌&&◌, not, cond}
use mathlib.Core.List.{List, [], ◌∷◌, ◌++◌}
use Prim.Native.Nat.{ℕ, ◌+◌, ◌-◌, ◌*◌, ◌^◌, ◌≤◌, ◌<◌}
use native.Mathlib.Nat.{mul-le-mul}
use native.Mathlib.Omega.{arith}
use lib.Dec.{eqb, ltb, leb}
use lib.ListN.{length}
use borrow.Author.Tests.{eq-eqb, ne_eqb, lt-ltb, le-ltb, le-leb, lt-leb, leb-true, leb-false}
use Rattle.counting.proofs.Cases.{by_test}
use Rattle.families.specs.declared.Family.{Family}
use Rattle.sheets.specs.declared.records.Limits.{Limits}
use Rattle.sheets.specs.Refusals.{Test, ◌when◌, first_fault}
use Rattle.sheets.specs.Bytes.{le16}
use Rattle.sheets.specs.Records.{length_of, head_tests, header_tests, element_tests, family_tests, family_record, body_tests, bad_segment, last_of, fault}

-- ---- the length that each kind states
module _ (kind : ℕ) where
  pub header_length : kind ≡ 1 → length_of kind ≡ 8
  unfolding length_of
  header_length e = rw e

  pub element_length : kind ≡ 2 → length_of kind ≡ 4
  unfolding length_of
  element_length e = rw e

  pub family_length : kind ≡ 3 → length_of kind ≡ 20
  unfolding length_of
  family_length e = rw e

-- ---- up to the body
module _ (xs : List ℕ) (kind at : ℕ) where
  pub head_short : length xs < at + 4 → 1 ≡ first_fault (head_tests xs kind at)
  unfolding head_tests first_fault
  head_short h = rw (lt-ltb _ _ h) refl

  module _ (start : at + 4 ≤ length xs) where
    pub head_kind : (le16 xs (at + 2) ≡ kind → ⊥) → 2 ≡ first_fault (head_tests xs kind at)
    unfolding head_tests first_fault
    head_kind k = rw (le-ltb _ _ start, ne_eqb _ _ k) refl

    module _ (k : le16 xs (at + 2) ≡ kind) where
      pub head_length : (le16 xs at ≡ length_of kind → ⊥) → 3 ≡ first_fault (head_tests xs kind at)
      unfolding head_tests first_fault
      head_length n = rw (le-ltb _ _ start, eq-eqb _ _ k, ne_eqb _ _ n) refl

      module _ (n : le16 xs at ≡ length_of kind) where
        pub head_cut : length xs < at + 2 + length_of kind → 1 ≡ first_fault (head_tests xs kind at)
        unfolding head_tests first_fault
        head_cut h = rw (le-ltb _ _ start, eq-eqb _ _ k, eq-eqb _ _ n, lt-ltb _ _ h) refl

        pub head_good : at + 2 + length_of kind ≤ length xs → 0 ≡ first_fault (head_tests xs kind at)
        unfolding head_tests first_fault
        head_good h = rw (le-ltb _ _ start, eq-eqb _ _ k, eq-eqb _ _ n, le-ltb _ _ h) refl

-- ---- a record: its head's fault if there is one, and else its body's
head_first : (short kind long cut : Bool) (body : List Test)
    → let head = (1 when short) ∷ (2 when kind) ∷ (3 when long) ∷ (1 when cut) ∷ [] in
    first_fault (head ++ body) ≡ cond (eqb (first_fault head) 0) (first_fault body) (first_fault head)
unfolding first_fault
head_first true kind long cut body = refl
head_first false true long cut body = refl
head_first false false true cut body = refl
head_first false false false true body = refl
head_first false false false false body = refl

module _ (levels : ℕ) (m : Limits) (xs : List ℕ) (kind at : ℕ) where
  record_fault : fault levels m xs kind at ≡ cond (eqb (first_fault (head_tests xs kind at)) 0) (first_fault (body_tests levels m xs kind at)) (first_fault (head_tests xs kind at))
  unfolding fault head_tests
  record_fault = head_first _ _ _ _ (body_tests levels m xs kind at)

  pub record_head : (k : ℕ) → k ≡ first_fault (head_tests xs kind at) → (k ≡ 0 → ⊥) → k ≡ fault levels m xs kind at
  record_head k e d = e ∙ sym (record_fault ∙ rw (← e, ne_eqb k 0 d) refl)

  pub record_body : (k : ℕ) → k ≡ first_fault (head_tests xs kind at) → k ≡ 0 → (b : ℕ) → b ≡ first_fault (body_tests levels m xs kind at) → b ≡ fault levels m xs kind at
  record_body k e z b q = q ∙ sym (record_fault ∙ rw (← e, eq-eqb k 0 z) refl)

  -- an unknown kind is not the kind that is due
  pub record_unknown : (found : ℕ) → 1 ≤ kind → kind ≤ 3 → at + 4 ≤ length xs → found ≡ le16 xs (at + 2) → (found ≡ 1 → ⊥) → (found ≡ 2 → ⊥) → (found ≡ 3 → ⊥)
      → 2 ≡ fault levels m xs kind at
  record_unknown found least most start is a b c = record_head 2 (head_kind xs kind at start (λ e. omega arith)) (λ e. omega arith)

  -- the kind picks the body's tests
  pub body_header : kind ≡ 1 → first_fault (header_tests xs at) ≡ first_fault (body_tests levels m xs kind at)
  unfolding body_tests
  body_header e = rw e

  pub body_element : kind ≡ 2 → first_fault (element_tests xs at) ≡ first_fault (body_tests levels m xs kind at)
  unfolding body_tests
  body_element e = rw e

  pub body_family : kind ≡ 3 → first_fault (family_tests levels m (family_record xs at)) ≡ first_fault (body_tests levels m xs kind at)
  unfolding body_tests
  body_family e = rw e

-- ---- the counts
module _ (xs : List ℕ) (at : ℕ) where
  pub header_none : le16 xs (at + 8) ≡ 0 → 4 ≡ first_fault (header_tests xs at)
  unfolding header_tests first_fault
  header_none e = rw (eq-eqb _ _ e) refl

  pub header_many : (le16 xs (at + 8) ≡ 0 → ⊥) → 16 < le16 xs (at + 8) → 4 ≡ first_fault (header_tests xs at)
  unfolding header_tests first_fault
  header_many d h = rw (ne_eqb _ _ d, lt-ltb _ _ h) refl

  pub header_good : (le16 xs (at + 8) ≡ 0 → ⊥) → le16 xs (at + 8) ≤ 16 → 0 ≡ first_fault (header_tests xs at)
  unfolding header_tests first_fault
  header_good d h = rw (ne_eqb _ _ d, le-ltb _ _ h) refl

  pub element_none : le16 xs (at + 4) ≡ 0 → 4 ≡ first_fault (element_tests xs at)
  unfolding element_tests first_fault
  element_none e = rw (eq-eqb _ _ e) refl

  pub element_good : (le16 xs (at + 4) ≡ 0 → ⊥) → 0 ≡ first_fault (element_tests xs at)
  unfolding element_tests first_fault
  element_good d = rw (ne_eqb _ _ d) refl

-- ---- a segment
module _ (f : Family) where
  pub segment_none : f.n ≡ 0 → true ≡ bad_segment f
  unfolding bad_segment
  segment_none e = rw (eq-eqb _ _ e) refl

  module _ (some : f.n ≡ 0 → ⊥) where
    pub segment_back : f.r < f.l → true ≡ bad_segment f
    unfolding bad_segment
    segment_back h = rw (ne_eqb _ _ some, lt-ltb _ _ h) refl

    module _ (forward : f.l ≤ f.r) where
      pub segment_one : f.n ≡ 1 → not (eqb f.s 0) ≡ bad_segment f
      unfolding bad_segment
      segment_one e = rw (ne_eqb _ _ some, le-ltb _ _ forward, eq-eqb _ _ e) refl

      pub segment_more : (f.n ≡ 1 → ⊥) → leb f.s (f.r - f.l) ≡ bad_segment f
      unfolding bad_segment
      segment_more d = rw (ne_eqb _ _ some, le-ltb _ _ forward, ne_eqb _ _ d) (at_most f.s (f.r - f.l))
        where
          at_most : (a b : ℕ) → leb a b ≡ ltb a (b + 1)
          at_most a b = by_test (leb a b) (λ e. e ∙ sym (lt-ltb a (b + 1) (omega (arith, leb-true a b e)))) (λ e. e ∙ sym (le-ltb a (b + 1) (omega (arith, leb-false a b e))))

-- ---- 64 bits hold every last byte, and the byte after it
pub last_fits : (r n s : ℕ) → r < 2 ^ 32 → n < 2 ^ 32 → s < 2 ^ 32 → r + (n - 1) * s + 1 < 2 ^ 64
last_fits r n s hr hn hs = let p : (n - 1) * s ≤ (2 ^ 32 - 2) * (2 ^ 32 - 1) = mul-le-mul {n₂ = 2 ^ 32 - 2} {m₂ = 2 ^ 32 - 1} (omega arith) (omega arith) in omega arith

-- ---- a family
module _ (levels : ℕ) (m : Limits) (f : Family) where
  pub family_many : m.room ≡ 0 → 5 ≡ first_fault (family_tests levels m f)
  unfolding family_tests first_fault
  family_many e = rw (eq-eqb _ _ e) refl

  module _ (room : m.room ≡ 0 → ⊥) where
    pub family_segment : bad_segment f ≡ true → 6 ≡ first_fault (family_tests levels m f)
    unfolding family_tests first_fault
    family_segment e = rw (ne_eqb _ _ room, e) refl

    module _ (segment : bad_segment f ≡ false) where
      pub family_span : m.bound < last_of f → 7 ≡ first_fault (family_tests levels m f)
      unfolding family_tests first_fault
      family_span h = rw (ne_eqb _ _ room, segment, lt-ltb _ _ h) refl

      module _ (span : last_of f ≤ m.bound) where
        pub family_order : f.l < m.from → 8 ≡ first_fault (family_tests levels m f)
        unfolding family_tests first_fault
        family_order h = rw (ne_eqb _ _ room, segment, le-ltb _ _ span, lt-ltb _ _ h) refl

        module _ (order : m.from ≤ f.l) where
          pub family_leaf : f.children ≡ 0 → 0 ≡ first_fault (family_tests levels m f)
          unfolding family_tests first_fault
          family_leaf e = rw (ne_eqb _ _ room, segment, le-ltb _ _ span, le-ltb _ _ order, eq-eqb _ _ e) (last (leb levels 1))
            where
              last : (b : Bool) → ◌≡◌ {A = ℕ} 0 (cond (b && false) 9 0)
              last true = refl
              last false = refl

          pub family_deep : levels ≤ 1 → (f.children ≡ 0 → ⊥) → 9 ≡ first_fault (family_tests levels m f)
          unfolding family_tests first_fault
          family_deep h d = rw (ne_eqb _ _ room, segment, le-ltb _ _ span, le-ltb _ _ order, le-leb _ _ h, ne_eqb _ _ d) refl

          pub family_good : 1 < levels → 0 ≡ first_fault (family_tests levels m f)
          unfolding family_tests first_fault
          family_good h = rw (ne_eqb _ _ room, segment, le-ltb _ _ span, le-ltb _ _ order, lt-leb _ _ h) refl
