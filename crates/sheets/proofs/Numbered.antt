-- Every refusal has a number of the table: while records are read one of theirs, and else 11 with its flag. None is 0, which says that a sheet is
-- accepted. Assumes nothing.
use mathlib.Core.Path.{◌≡◌, refl, sym}
use mathlib.Core.Bool.{Bool, true, false, ◌&&◌, cond, true≢false}
use mathlib.Core.List.{List, [], ◌∷◌, ◌++◌}
use mathlib.Core.Logic.{◌⊎◌, inl, inr}
use Prim.Native.Nat.{◌-◌, ℕ, zero, suc, ◌≤◌}
use native.Mathlib.Omega.{arith}
use lib.Dec.{eqb, ltb}
use Rattle.families.specs.Flat.{total}
use Rattle.counting.proofs.Cases.{by_test}
use Rattle.families.specs.Forest.{Forest}
use Rattle.sheets.specs.declared.records.Limits.{Limits}
use Rattle.sheets.specs.Refusals.{record_numbers, one_of, Test, ◌when◌, first_fault, Read, got, refused, unless, and_then, HOLE_OR_OVERLAP, NO_FLAG, HOLE, OVERLAP}
use Rattle.sheets.specs.Bytes.{le32}
use Rattle.sheets.specs.Records.{head_tests, header_tests, element_tests, family_tests, body_tests, fault}
use Rattle.sheets.specs.Pattern.{sizes, in_elements, first_uneven, flag_of}
use Rattle.sheets.specs.Sheet.{siblings_from, forest_from, elements_from, elements_of, refusal, accepted, judged, answer, read_sheet, Reading}

pub listed_some : (k : ℕ) → one_of k record_numbers ≡ true → 1 ≤ k
unfolding one_of
listed_some zero e = absurd (true≢false (sym e))
listed_some (suc k) e = omega arith

-- ---- THE FIRST FAULT of tests whose numbers are all of a list is 0, or one of the list
unfoldable pub listed : (numbers : List ℕ) → List Test → Bool
listed numbers [] = true
listed numbers ((number when there) ∷ tests) = one_of number numbers && listed numbers tests

abbrev pub FaultOf : (numbers : List ℕ) → ℕ → Type 0
FaultOf numbers k = (k ≡ 0) ⊎ (one_of k numbers ≡ true)

both : (a b : Bool) → (a && b) ≡ true → (a ≡ true) × (b ≡ true)
both true b e = (refl, e)
both false b e = absurd (true≢false (sym e))

pub first_listed : (numbers : List ℕ) (tests : List Test) → listed numbers tests ≡ true → FaultOf numbers (first_fault tests)
unfolding listed first_fault
first_listed numbers [] h = inl refl
first_listed numbers ((number when true) ∷ tests) h = inr (both (one_of number numbers) (listed numbers tests) h).0
first_listed numbers ((number when false) ∷ tests) h = first_listed numbers tests (both (one_of number numbers) (listed numbers tests) h).1

-- .. and so is a record's fault
body_listed : (levels : ℕ) (m : Limits) (xs : List ℕ) (kind at : ℕ) → listed record_numbers (body_tests levels m xs kind at) ≡ true
unfolding listed one_of body_tests header_tests element_tests family_tests
body_listed levels m xs kind at = by_test (eqb kind 1)
    (λ header. rw header)
    (λ e. by_test (eqb kind 2)
    (λ element. rw (e, element))
    (λ f. by_test (eqb kind 3) (λ family. rw (e, f, family)) (λ unknown. rw (e, f, unknown))))

fault_listed : (levels : ℕ) (m : Limits) (xs : List ℕ) (kind at : ℕ) → FaultOf record_numbers (fault levels m xs kind at)
unfolding listed one_of fault head_tests
fault_listed levels m xs kind at = first_listed record_numbers (head_tests xs kind at ++ body_tests levels m xs kind at) (body_listed levels m xs kind at)

-- ---- A REFUSAL has a number of the list: kept by each step
unfoldable pub Numbered : {A : Type 0} → Read A → Type 0
Numbered (got thing) = Unit {0}
Numbered (refused number place) = one_of number record_numbers ≡ true

got_numbered : {A : Type 0} (thing : A) → Numbered (got thing)
unfolding Numbered
got_numbered thing = tt

unless_numbered : {A : Type 0} (k place : ℕ) (next : Read A) → FaultOf record_numbers k → Numbered next → Numbered (unless k place next)
unfolding Numbered unless
unless_numbered zero place next f h = h
unless_numbered (suc k) place next (inl e) h = absurd (omega arith)
unless_numbered (suc k) place next (inr e) h = e

then_numbered : {A B : Type 0} (first : Read A) (next : A → Read B) → Numbered first → ((thing : A) → Numbered (next thing)) → Numbered (and_then first next)
unfolding Numbered and_then
then_numbered (got thing) next h k = k thing
then_numbered (refused number place) next h k = h

-- ---- and so by the reader
siblings_numbered : (below : Limits → (count at : ℕ) → Read Forest) (xs : List ℕ) (levels : ℕ) → ((m : Limits) (count at : ℕ) → Numbered (below m count at))
    → (count : ℕ) (m : Limits) (at : ℕ) → Numbered (siblings_from below xs levels m count at)
unfolding siblings_from
siblings_numbered below xs levels deeper zero m at = got_numbered _
siblings_numbered below xs levels deeper (suc k) m at =
    unless_numbered _ _ _ (fault_listed levels m xs _ at)
    (then_numbered _ _ (deeper _ _ _) (λ kids. then_numbered _ _ (siblings_numbered below xs levels deeper k _ _) (λ rest. got_numbered _)))

pub forest_numbered : (xs : List ℕ) (levels : ℕ) (m : Limits) (count at : ℕ) → Numbered (forest_from xs levels m count at)
unfolding forest_from
forest_numbered xs zero m count at = got_numbered _
forest_numbered xs (suc levels) m count at = siblings_numbered (forest_from xs levels) xs (suc levels) (forest_numbered xs levels) count m at

pub elements_numbered : (xs : List ℕ) (room count at : ℕ) → Numbered (elements_from xs room count at)
unfolding elements_from
elements_numbered xs room zero at = got_numbered _
elements_numbered xs room (suc k) at =
    unless_numbered _ _ _ (fault_listed 4 _ xs _ at)
    (then_numbered _ _ (forest_numbered xs 4 _ _ _) (λ F. then_numbered _ _ (elements_numbered xs (room - total F) k _) (λ Fs. got_numbered _)))

pub sheet_numbered : (xs : List ℕ) → Numbered (elements_of xs)
unfolding elements_of listed one_of
sheet_numbered xs =
    unless_numbered _ _ _ (fault_listed 4 _ xs _ 0)
    (then_numbered _ _ (elements_numbered xs _ _ _) (λ Fs. unless_numbered _ _ _ (first_listed record_numbers _ refl) (got_numbered _)))

pub refused_number : (xs : List ℕ) (number place : ℕ) → elements_of xs ≡ refused number place → 1 ≤ number
unfolding Numbered
refused_number xs number place e = listed_some number (rw e at (sheet_numbered xs))

-- ---- A REFUSED READING names a record, or what follows the last, and has no flag; or it is 11, with hole or overlap
abbrev pub RefusedReading : Reading → Type 0
RefusedReading r =
    ((one_of r.number record_numbers ≡ true) × (r.flag ≡ NO_FLAG))
    ⊎ ((r.number ≡ HOLE_OR_OVERLAP) × ((r.flag ≡ HOLE) ⊎ (r.flag ≡ OVERLAP)))

flag_numbered : (none : Bool) → (cond none HOLE OVERLAP ≡ HOLE) ⊎ (cond none HOLE OVERLAP ≡ OVERLAP)
flag_numbered true = inl refl
flag_numbered false = inr refl

judged_numbered : (uneven : Bool) (d place k : ℕ) (Fs : List Forest)
    → let r = cond uneven (refusal HOLE_OR_OVERLAP place (flag_of k)) (accepted d Fs) in (r.number ≡ 0 → ⊥) → RefusedReading r
unfolding refusal accepted
judged_numbered true d place k Fs h = inr (refl, flag_numbered (eqb k 0))
judged_numbered false d place k Fs h = absurd (h refl)

answer_numbered : (d : ℕ) (R : Read (List Forest)) → Numbered R → ((answer d R).number ≡ 0 → ⊥) → RefusedReading (answer d R)
unfolding Numbered answer judged refusal
answer_numbered d (got Fs) n h = judged_numbered (ltb (first_uneven Fs) (sizes Fs)) d (first_uneven Fs) (in_elements Fs (first_uneven Fs)) Fs h
answer_numbered d (refused number place) n h = inl (n, refl)

pub reading_numbered : (xs : List ℕ) → ((read_sheet xs).number ≡ 0 → ⊥) → RefusedReading (read_sheet xs)
unfolding read_sheet
reading_numbered xs = answer_numbered (le32 xs 4) (elements_of xs) (sheet_numbered xs)
