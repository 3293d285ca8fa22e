-- Read, then encode: trees that were got from bytes meet the rules, and the bytes are their sheet. Assumes nothing.
use mathlib.Core.Path.{◌≡◌, refl, ap, ◌∙◌}
use mathlib.Core.List.{List, [], ◌++◌, append_assoc, append-nil}
use Prim.Native.Nat.{ℕ, zero, suc, ◌+◌, ◌-◌, ◌*◌, ◌≤◌}
use native.Mathlib.Nat.{add-zero}
use native.Mathlib.Omega.{arith}
use lib.ListN.{length, drop, drop_of_length-le}
use Rattle.families.specs.Forest.{Forest}
use Rattle.families.specs.Flat.{width, total, totals}
use Rattle.sheets.specs.declared.records.Limits.{Limits}
use Rattle.sheets.specs.Refusals.{got}
use Rattle.sheets.specs.Bytes.{le16, le32, two, four, Bytes}
use Rattle.sheets.specs.Records.{length_of, family_record}
use Rattle.sheets.specs.Sheet.{top, forest_from, elements_from, elements_of}
use Rattle.sheets.specs.Encode.{family_bytes, forest_bytes, element_bytes, elements_bytes, encode, Rules}
use Rattle.sheets.proofs.Faults.{Headed, element_taken}
use Rattle.sheets.proofs.Shapes.{Claim, OfNone, OfOne, forest_induction, family_inside, element_read, element_inside, sheet_read}
use Rattle.sheets.proofs.Numbers.{two_was, four_was, le32_lt}

module _ (xs : List ℕ) (B : Bytes xs) where
  -- ---- one record
  head_was : (kind at : ℕ) → 2 ≤ length_of kind → Headed xs kind at → drop at xs ≡ two (length_of kind) ++ (two kind ++ drop (at + 4) xs)
  head_was kind at h H =
      two_was xs B at (at + 2) refl (omega (arith, H.inside))
      ∙ rw (H.length_is, two_was xs B (at + 2) (at + 4) (omega arith) (omega (arith, H.inside)), H.kind_is)

  family_was : (at : ℕ) → Headed xs 3 at
      → drop at xs ≡ family_bytes (family_record xs at).l (family_record xs at).r (family_record xs at).s (family_record xs at).n (family_record xs at).children ++ drop (at + 22) xs
  unfolding family_bytes family_record length_of
  family_was at H =
      let room = family_inside xs at H in
      let ls = four_was xs B (at + 4) (at + 8) (omega arith) (omega arith) in
      let rs = four_was xs B (at + 8) (at + 12) (omega arith) (omega arith) in
      let ss = four_was xs B (at + 12) (at + 16) (omega arith) (omega arith) in
      let ns = four_was xs B (at + 16) (at + 20) (omega arith) (omega arith) in
      let ks = two_was xs B (at + 20) (at + 22) (omega arith) room in
      head_was 3 at (omega arith) H ∙ rw (ls, rs, ss, ns, ks) (simp append_assoc)

  element_was : (at : ℕ) (F : Forest) → Headed xs 2 at → width F ≡ le16 xs (at + 4) → drop (at + 6) xs ≡ forest_bytes F ++ drop (at + 6 + 22 * total F) xs
      → drop at xs ≡ element_bytes F ++ drop (at + 6 + 22 * total F) xs
  unfolding element_bytes length_of
  element_was at F H wide e =
      let tops = two_was xs B (at + 4) (at + 6) (omega arith) (element_inside xs at H) in
      head_was 2 at (omega arith) H ∙ rw (tops, e, ← wide) (simp append_assoc)

  -- ---- families
  abbrev Stood : Claim
  Stood levels m count at F = (width F ≡ count) × (drop at xs ≡ forest_bytes F ++ drop (at + 22 * total F) xs)

  stood_none : OfNone Stood
  unfolding width total forest_bytes
  stood_none levels m at = (refl, rw (add-zero at))

  stood_one : OfOne xs Stood
  unfolding width total forest_bytes
  stood_one levels m k at kids rest T K R =
      let z : at + 22 + 22 * total kids ≡ at + 22 * suc (total kids) = omega arith in
      let end : at + 22 * suc (total kids) + 22 * total rest ≡ at + 22 * suc (total kids + total rest) = omega arith in
      (ap suc R.0, family_was at T.head ∙ rw (K.1, z, R.1, end, ← K.0) (simp append_assoc))

  pub forest_stood : (levels : ℕ) (m : Limits) (count at : ℕ) (F : Forest) → (levels ≡ 0 → count ≡ 0) → forest_from xs levels m count at ≡ got F
      → (width F ≡ count) × (drop at xs ≡ forest_bytes F ++ drop (at + 22 * total F) xs)
  forest_stood = forest_induction xs Stood stood_none stood_one

  -- ---- elements
  pub elements_stood : (room count at : ℕ) (Fs : List Forest) → elements_from xs room count at ≡ got Fs
      → drop at xs ≡ elements_bytes Fs ++ drop (at + (6 * length Fs + 22 * totals Fs)) xs
  unfolding elements_from elements_bytes totals
  elements_stood room zero at Fs e = let q : [] ≡ Fs = cc in rw (← q, add-zero at)
  elements_stood room (suc k) at Fs e =
      let E = element_read xs room k at Fs e in
      let F = E.families in
      let families = forest_stood 4 (top room) _ (at + 6) F (λ h. absurd (omega arith)) E.families_read in
      let others = elements_stood (room - total F) k (at + 6 + 22 * total F) E.others E.others_read in
      let end : at + 6 + 22 * total F + (6 * length E.others + 22 * totals E.others) ≡ at + (6 * suc (length E.others) + 22 * (total F + totals E.others)) = omega arith in
      rw E.is (element_was at F (element_taken 4 (top room) xs at E.fine).0 families.0 families.1 ∙ rw (others, end) (simp append_assoc))

  -- ---- A SHEET that was got
  header_was : Headed xs 1 0 → xs ≡ two 8 ++ (two 1 ++ (four (le32 xs 4) ++ (two (le16 xs 8) ++ drop 10 xs)))
  unfolding length_of
  header_was H =
      let room = H.inside in
      head_was 1 0 (omega arith) H ∙ rw (four_was xs B 4 8 refl (omega arith), two_was xs B 8 10 refl (omega arith))

  pub read_rules : (Fs : List Forest) → elements_of xs ≡ got Fs → Rules (le32 xs 4) Fs × (xs ≡ encode (le32 xs 4) Fs)
  unfolding encode length_of
  read_rules Fs e =
      let S = sheet_read xs Fs e in
      let elements : drop 10 xs ≡ elements_bytes Fs = elements_stood 256 (le16 xs 8) 10 Fs S.elements_read_lem ∙ rw (drop_of_length-le xs S.ends) (append-nil (elements_bytes Fs)) in (
        record { short = le32_lt xs B 4; least = S.least; most = S.most; room = S.room; each = S.each },
        header_was S.header ∙ rw (elements, ← S.long),
      )
