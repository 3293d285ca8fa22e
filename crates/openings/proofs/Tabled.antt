-- WHAT A CALL SAYS after its checks is of 01's table: each check refuses with a row of it. Assumes nothing.
use mathlib.Core.Path.{◌≡◌, refl, sym, ap, ◌∙◌}
use mathlib.Core.Bool.{Bool, true, ◌||◌, or_assoc, or-true, true≢false}
use mathlib.Core.List.{List, [], ◌∷◌, ◌++◌, map}
use mathlib.Core.Logic.{⊎_elim}
use Prim.Native.Nat.{ℕ}
use lib.Dec.{eqb}
use borrow.Author.Tests.{eq-eqb, eqb-true, eqb-false}
use Rattle.counting.proofs.Cases.{by_test}
use Rattle.sheets.specs.Refusals.{one_of, record_numbers, HOLE_OR_OVERLAP, NO_FLAG, HOLE, OVERLAP, Test, first_fault}
use Rattle.sheets.specs.Sheet.{read_sheet, Reading}
use Rattle.sheets.proofs.Numbered.{listed, first_listed, RefusedReading, reading_numbered}
use Rattle.openings.specs.Said.{Said, done}
use Rattle.openings.specs.Refusals.{ROOM, unless_sheet, unless_fault}
use Rattle.openings.specs.Table.{Row, sheets_given, record_row, uneven_row, call_row, call_numbers, table, of_row, of_rows, OfTable}

-- ---- a refusal of some rows is of more rows too
module _ (number sheet place flag : ℕ) where
  abbrev of : List Row → Bool
  of rows = of_rows rows number sheet place flag

  of_append : (some more : List Row) → of (some ++ more) ≡ (of some || of more)
  unfolding of_rows
  of_append [] more = refl
  of_append (row ∷ some) more =
      let first = of_row row number sheet place flag in ap (λ (b : Bool). first || b) (of_append some more) ∙ sym (or_assoc first (of some) (of more))

  of_front : (some more : List Row) → of some ≡ true → of (some ++ more) ≡ true
  of_front some more e = of_append some more ∙ rw e refl

  of_back : (some more : List Row) → of more ≡ true → of (some ++ more) ≡ true
  of_back some more e = of_append some more ∙ rw e (or-true (of some))

  -- of the rows of a list of numbers, where it has the number
  of_numbers : (row : ℕ → Row) → of_row (row number) number sheet place flag ≡ true → (numbers : List ℕ) → one_of number numbers ≡ true → of (map row numbers) ≡ true
  unfolding of_rows one_of
  of_numbers row own [] e = absurd (true≢false (sym e))
  of_numbers row own (n ∷ numbers) e = by_test (eqb number n)
      (λ same. rw (ap (λ (k : ℕ). of_row (row k) number sheet place flag) (sym (eqb-true number n same)) ∙ own) refl)
      (λ other. rw (of_numbers row own numbers (rw other at e)) (or-true (of_row (row n) number sheet place flag)))

-- ---- each kind of row
record_of : (number sheet place : ℕ) → one_of number record_numbers ≡ true → one_of sheet sheets_given ≡ true → of_rows table number sheet place NO_FLAG ≡ true
unfolding one_of
record_of number sheet place e k =
    of_front number sheet place NO_FLAG (map record_row record_numbers ++ (uneven_row ∷ [])) _
    (of_front number sheet place NO_FLAG (map record_row record_numbers) _
    (of_numbers number sheet place NO_FLAG record_row (rw (eq-eqb number number refl, k) refl) record_numbers e))

uneven_own : (sheet place flag : ℕ) → one_of sheet sheets_given ≡ true → one_of flag (HOLE ∷ OVERLAP ∷ []) ≡ true → of_rows (uneven_row ∷ []) HOLE_OR_OVERLAP sheet place flag ≡ true
unfolding of_rows
uneven_own sheet place flag k f = rw (k, f) refl

uneven_of_lem : (sheet place flag : ℕ) → one_of sheet sheets_given ≡ true → one_of flag (HOLE ∷ OVERLAP ∷ []) ≡ true → of_rows table HOLE_OR_OVERLAP sheet place flag ≡ true
uneven_of_lem sheet place flag k f =
    of_front HOLE_OR_OVERLAP sheet place flag (map record_row record_numbers ++ (uneven_row ∷ [])) _
    (of_back HOLE_OR_OVERLAP sheet place flag (map record_row record_numbers) (uneven_row ∷ []) (uneven_own sheet place flag k f))

call_of_lem : (number : ℕ) → one_of number call_numbers ≡ true → of_rows table number 0 0 NO_FLAG ≡ true
unfolding one_of
call_of_lem number e =
    of_back number 0 0 NO_FLAG (map record_row record_numbers ++ (uneven_row ∷ [])) _
    (of_front number 0 0 NO_FLAG (map call_row call_numbers) _
    (of_numbers number 0 0 NO_FLAG call_row (rw (eq-eqb number number refl) refl) call_numbers e))

pub room_of : (n : ℕ) → of_rows table ROOM 0 n NO_FLAG ≡ true
unfolding of_rows one_of
room_of n = refl

-- ---- kept by each check
pub done_tabled : (values : List ℕ) → OfTable (done values)
unfolding OfTable
done_tabled values = tt

refused_reading : (r : Reading) (sheet : ℕ) → one_of sheet sheets_given ≡ true → RefusedReading r → of_rows table r.number sheet r.place r.flag ≡ true
unfolding one_of
refused_reading r sheet k = ⊎_elim
    (λ named. rw named.1 (record_of r.number sheet r.place named.0 k))
    (λ uneven. rw uneven.0 (⊎_elim (λ hole. rw hole (uneven_of_lem sheet r.place HOLE k refl)) (λ overlap. rw overlap (uneven_of_lem sheet r.place OVERLAP k refl)) uneven.1))

module _ (next : Said) (h : OfTable next) where
  pub sheet_tabled : (xs : List ℕ) (k : ℕ) → one_of k sheets_given ≡ true → OfTable (unless_sheet k (read_sheet xs) next)
  unfolding unless_sheet OfTable
  sheet_tabled xs k which =
      let r = read_sheet xs in
      by_test (eqb r.number 0) (λ z. rw z h) (λ d. rw d (refused_reading r k which (reading_numbered xs (eqb-false r.number 0 d))))

  pub fault_tabled : (tests : List Test) → listed call_numbers tests ≡ true → OfTable (unless_fault tests next)
  unfolding unless_fault OfTable
  fault_tabled tests l =
      by_test (eqb (first_fault tests) 0)
      (λ z. rw z h)
      (λ d. rw d (⊎_elim (λ z. absurd (eqb-false (first_fault tests) 0 d z)) (λ e. call_of_lem (first_fault tests) e) (first_listed call_numbers tests l)))
