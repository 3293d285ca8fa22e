-- Opening two sheets, and an element of each: what a call knows of what was opened. Assumes nothing.
use mathlib.Core.Path.{◌≡◌, refl, sym, ◌∙◌}
use mathlib.Core.List.{List, []}
use Prim.Native.Nat.{ℕ, ◌≤◌}
use native.Mathlib.Omega.{arith}
use Rattle.std.specs.Prelude.{Result, Ok, Err}
use Rattle.sheets.specs.Sheet.{read_sheet, Reading}
use Rattle.sheets.specs.Answered.{reading_of}
use Rattle.sheets.specs.declared.Sheet.{Sheet}
use Rattle.sheets.specs.declared.refusals.Refused.{Refused}
use Rattle.maps.specs.Selected.{PatternOk}
use Rattle.openings.specs.declared.Which.TheVariants.{First, Second}
use Rattle.openings.specs.declared.Refusal.{Refusal}
use Rattle.openings.specs.declared.Refusal.TheVariants as refusals
use Rattle.openings.specs.declared.Pair.{Pair}
use Rattle.openings.specs.declared.Sheets.{Sheets}
use Rattle.openings.specs.declared.RefusedSheets.TheVariants as refused_sheets
use Rattle.openings.specs.Said.{Said, done}
use Rattle.openings.specs.Refusals.{unless_sheet, unless_sheets}
use Rattle.openings.specs.Offsets.{LIMIT, pair_tests, window_tests, both_from, unless_elements, unless_windows}
use Rattle.openings.specs.Openings.{Passes, Verdict, accepted_as, Chosen, OpensSheets}
use Rattle.openings.proofs.Orders.{sheet_passed, fault_passed, sheet_through, fault_through}
use Rattle.openings.proofs.Verdicts.{still, after}
use Rattle.openings.proofs.Readings.{accepted_reads, refused_reads}
use Rattle.openings.proofs.Faults.{range_known, pair_fine, pair_known}
use Rattle.openings.proofs.Opens.{accepted_shares, ElementFine, Opened, chosen_known}

-- ---- both are accepted: every call goes on; and a call that did its work had two that are
pub sheets_on : (r1 r2 : Reading) → r1.number ≡ 0 → r2.number ≡ 0 → Passes (unless_sheets r1 r2)
sheets_on r1 r2 fine1 fine2 next = sheet_passed next 2 r2 fine2 ∙ sheet_passed _ 1 r1 fine1

pub sheets_through : (r1 r2 : Reading) {next : Said} {values : List ℕ} → unless_sheets r1 r2 next ≡ done values → (r1.number ≡ 0) × (r2.number ≡ 0) × (next ≡ done values)
sheets_through r1 r2 q =
    let one = sheet_through 1 r1 q in
    let two = sheet_through 2 r2 one.1 in
    (one.0, two.0, two.1)

-- ---- `open_sheets`, by what each sheet was read as: the first is refused, the second is, both are accepted
module _ (r1 r2 : Reading) where
  pub first_closed : (f : Refused) → reading_of (Err f) ≡ r1 → (two : Result Sheet Refused) → reading_of two ≡ r2 → OpensSheets r1 r2 (Err (refused_sheets.First f two))
  first_closed f read1 two read2 = (still Sheet Sheets (unless_sheet 1 r1) (unless_sheet 2 r2) (refusals.Sheet First f) (refused_reads First r1 f read1), (read1, read2))

  module _ (s : Sheet) (read1 : reading_of (Ok s) ≡ r1) where
    then : (answer : Result Sheet Refusal) → Verdict (unless_sheet 2 r2) answer → Verdict (unless_sheets r1 r2) answer
    then = after Sheet Sheet (unless_sheet 1 r1) (unless_sheet 2 r2) s (accepted_reads First r1 s read1).0

    pub second_closed : (f : Refused) → reading_of (Err f) ≡ r2 → OpensSheets r1 r2 (Err (refused_sheets.Second s f))
    second_closed f read2 = (then (Err (refusals.Sheet Second f)) (refused_reads Second r2 f read2), (read1, read2))

    pub both_opened : (t : Sheet) → reading_of (Ok t) ≡ r2 → OpensSheets r1 r2 (Ok (record { one = s; two = t }))
    both_opened t read2 = (then (Ok t) (accepted_reads Second r2 t read2).0, (read1, read2))

-- ---- what a call knows of two sheets that were opened
module _ (r1 r2 : Reading) (P : Passes (unless_sheets r1 r2)) where
  pub both_accepted : (r1.number ≡ 0) × (r2.number ≡ 0)
  both_accepted = let S = sheets_through r1 r2 (sym (P (done []))) in (S.0, S.1)

module _ (xs ys : List ℕ) {o : Sheets} (S : Passes (unless_sheets (read_sheet xs) (read_sheet ys)) × ((accepted_as o.one ≡ read_sheet xs) × (accepted_as o.two ≡ read_sheet ys))) where
  fine : ((read_sheet xs).number ≡ 0) × ((read_sheet ys).number ≡ 0)
  fine = both_accepted (read_sheet xs) (read_sheet ys) S.0

  pub first_shares : PatternOk o.one.layout o.one.size
  first_shares = accepted_shares xs (accepted_as o.one) S.1.0 fine.0

  pub second_shares : PatternOk o.two.layout o.two.size
  second_shares = accepted_shares ys (accepted_as o.two) S.1.1 fine.1

-- ---- both elements are there: every call goes on; and a call that did its work had two that are
module _ (r1 r2 : Reading) (i j : ℕ) where
  pub elements_on : ElementFine r1 i → ElementFine r2 j → Passes (unless_elements r1 r2 i j)
  elements_on E1 E2 next =
      fault_passed next _ 0 (pair_fine r1.layout.elements i r2.layout.elements j E1.there E2.there) refl ∙ sheets_on r1 r2 E1.fine E2.fine _

  pub elements_through : {next : Said} {values : List ℕ} → unless_elements r1 r2 i j next ≡ done values → ElementFine r1 i × ElementFine r2 j × (next ≡ done values)
  elements_through q =
      let P = sheets_through r1 r2 q in
      let E = fault_through (pair_tests r1.layout.elements i r2.layout.elements j) P.2 in
      let K = pair_known r1.layout.elements i r2.layout.elements j E.0 in
      (record { fine = P.0; there = K.0 }, record { fine = P.1; there = K.1 }, E.1)

-- ---- WHAT A CALL KNOWS of a pair that was opened
pub record Paired (r1 r2 : Reading) (i j a b : ℕ) (o : Pair) : Type 0 where
  pub one : Opened r1 i o.one.selection o.one.layout.family
  pub two : Opened r2 j o.two.selection o.two.layout.family
  pub forward : a ≤ b
  pub after1 : o.one.selection.from ≤ a
  pub after2 : o.two.selection.from ≤ a
  pub near : b ≤ LIMIT

pub paired : (xs ys : List ℕ) (i j a b : ℕ) {o : Pair} → let r1 = read_sheet xs in let r2 = read_sheet ys in
    Passes (unless_windows r1 r2 i j a b) → Chosen r1 i o.one → Chosen r2 j o.two → Paired r1 r2 i j a b o
paired xs ys i j a b P C1 C2 =
    let r1 = read_sheet xs in
    let r2 = read_sheet ys in
    let d = both_from r1 r2 in
    let E = elements_through r1 r2 i j (sym (P (done []))) in
    let one = chosen_known xs i C1 E.0 in
    let two = chosen_known ys j C2 E.1 in
    let K = range_known LIMIT d a b (fault_through (window_tests d a b) E.2).0 in
    record { one = one; two = two; forward = K.0; after1 = omega (arith, K.1, one.from); after2 = omega (arith, K.1, two.from); near = K.2 }
