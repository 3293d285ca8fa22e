-- The order of a call's checks: which of them refuses, and that the call goes on where none does. Assumes nothing.
use mathlib.Core.Path.{◌≡◌, refl, sym, ap, ◌∙◌}
use mathlib.Core.Bool.{Bool, true, false, true≢false}
use mathlib.Core.List.{List, [], ◌∷◌}
use Prim.Native.Nat.{ℕ}
use lib.Dec.{eqb}
use borrow.Author.Tests.{eq-eqb, ne_eqb, eqb-true}
use Rattle.counting.proofs.Cases.{by_test}
use Rattle.sheets.specs.Sheet.{Reading}
use Rattle.sheets.specs.Refusals.{Test, ◌when◌, first_fault, NO_FLAG}
use Rattle.openings.specs.declared.Refusal.{Refusal}
use Rattle.openings.specs.Said.{Said, done, refused, afterwards}
use Rattle.openings.specs.Refusals.{refusal_says, unless_sheet, unless_fault}

-- ---- a single row of the table
pub row_there : (number : ℕ) (there : Bool) → there ≡ true → number ≡ first_fault ((number when there) ∷ [])
unfolding first_fault
row_there number there e = rw e refl

pub row_absent : (number : ℕ) (there : Bool) → there ≡ false → 0 ≡ first_fault ((number when there) ∷ [])
unfolding first_fault
row_absent number there e = rw e refl

-- ---- what refuses, n being the number of the first fault, and that the call goes on where there is none
module _ (next : Said) where
  pub sheet_passed : (k : ℕ) (r : Reading) → r.number ≡ 0 → next ≡ unless_sheet k r next
  unfolding unless_sheet
  sheet_passed k r z = rw (eq-eqb r.number 0 z) refl

  pub sheet_refused : (k : ℕ) (r : Reading) → (r.number ≡ 0 → ⊥) → refused r.number k r.place r.flag ≡ unless_sheet k r next
  unfolding unless_sheet
  sheet_refused k r d = rw (ne_eqb r.number 0 d) refl

  module _ (tests : List Test) (n : ℕ) (e : n ≡ first_fault tests) where
    pub fault_refused : (n ≡ 0 → ⊥) → refused n 0 0 NO_FLAG ≡ unless_fault tests next
    unfolding unless_fault
    fault_refused d = rw (← e, ne_eqb n 0 d) refl

    pub fault_passed : n ≡ 0 → next ≡ unless_fault tests next
    unfolding unless_fault
    fault_passed z = rw (← e, eq-eqb n 0 z) refl

-- ---- a call that did its work has passed every check
abbrev is_done : Said → Bool
is_done (done values) = true
is_done (refused number sheet place flag) = false

pub never_both : {number sheet place flag : ℕ} {values : List ℕ} → refused number sheet place flag ≡ done values → ⊥
never_both q = true≢false (sym (ap is_done q))

module _ {next : Said} {values : List ℕ} where
  pub sheet_through : (k : ℕ) (r : Reading) → unless_sheet k r next ≡ done values → (r.number ≡ 0) × (next ≡ done values)
  unfolding unless_sheet
  sheet_through k r q = by_test (eqb r.number 0) (λ t. (eqb-true r.number 0 t, rw t at q)) (λ t. absurd (never_both (rw t at q)))

  pub fault_through : (tests : List Test) → unless_fault tests next ≡ done values → (first_fault tests ≡ 0) × (next ≡ done values)
  unfolding unless_fault
  fault_through tests q = by_test (eqb (first_fault tests) 0) (λ t. (eqb-true (first_fault tests) 0 t, rw t at q)) (λ t. absurd (never_both (rw t at q)))

pub same_value : {m n : ℕ} → done (m ∷ []) ≡ done (n ∷ []) → m ≡ n
same_value q = cc

-- ---- a call that writes: refused, and the buffer stays; or it did its work, and the buffer holds what was to be written
module _ {said : Said} (held written : List ℕ) where
  pub left_held : {number sheet place flag : ℕ} → refused number sheet place flag ≡ said → afterwards said held written ≡ held
  unfolding afterwards
  left_held q = ap (λ (s : Said). afterwards s held written) (sym q)

  pub left_written : {values : List ℕ} → done values ≡ said → afterwards said held written ≡ written
  unfolding afterwards
  left_written q = ap (λ (s : Said). afterwards s held written) (sym q)

  pub writes_not : (f : Refusal) → refusal_says f ≡ said → (refusal_says f ≡ said) × (held ≡ afterwards said held written)
  writes_not f q = (q, sym (left_held q))

  pub writes : {values later : List ℕ} → done values ≡ said → later ≡ written → (done values ≡ said) × (later ≡ afterwards said held written)
  writes q e = (q, e ∙ sym (left_written q))
