-- The verdict of a call's checks: they refuse, or the call goes on. Assumes nothing.
use mathlib.Core.Path.{◌≡◌, refl, sym, ◌∙◌}
use mathlib.Core.List.{List, [], ◌∷◌, ◌++◌}
use mathlib.Core.Bool.{true, false}
use Prim.Native.Nat.{ℕ}
use lib.Dec.{eqb}
use borrow.Author.Tests.{eqb-true, eqb-false}
use Rattle.std.specs.Prelude.{Result, Ok, Err}
use Rattle.counting.proofs.Cases.{by_test}
use Rattle.sheets.specs.Refusals.{Test, ◌when◌, first_fault}
use Rattle.openings.specs.declared.Refusal.{Refusal}
use Rattle.openings.specs.Said.{Said, done}
use Rattle.openings.specs.Refusals.{unless_fault}
use Rattle.openings.specs.Openings.{Passes, Refuses, Verdict}
use Rattle.openings.proofs.Orders.{fault_refused, fault_passed, fault_through, never_both}

-- ---- one check after the other: the first refuses, or it passes and the next one decides
module _ (checks more : Said → Said) where
  pub refused_first : (f : Refusal) → Refuses checks f → Refuses (λ next. checks (more next)) f
  refused_first f R next = R (more next)

  module _ (P : Passes checks) where
    pub passed_both : Passes more → Passes (λ next. checks (more next))
    passed_both Q next = Q next ∙ P (more next)

    pub refused_then : (f : Refusal) → Refuses more f → Refuses (λ next. checks (more next)) f
    refused_then f R next = R next ∙ P (more next)

-- ---- one check more, of answers of any types: a refusal stands, and else the verdict is that of the last check
module _ (A B : Type 0) (checks more : Said → Said) where
  pub still : (f : Refusal) → Verdict {A = A} checks (Err f) → Verdict {A = B} (λ next. checks (more next)) (Err f)
  still f R = refused_first checks more f R

  pub after : (given : A) → Verdict checks (Ok given) → (answer : Result B Refusal) → Verdict more answer → Verdict (λ next. checks (more next)) answer
  after given P (Ok last) Q = passed_both checks more P Q
  after given P (Err f) R = refused_then checks more P f R

-- checks that say the same have the same verdict
pub verdict_same : {A : Type 0} (checks more : Said → Said) → ((next : Said) → checks next ≡ more next) → (answer : Result A Refusal) → Verdict checks answer → Verdict more answer
verdict_same checks more same (Ok given) P = λ next. P next ∙ same next
verdict_same checks more same (Err f) R = λ next. R next ∙ same next

-- ---- tests that pass have no fault
pub passes_none : (tests : List Test) → Passes (unless_fault tests) → first_fault tests ≡ 0
passes_none tests P = (fault_through tests (sym (P (done [])))).0

-- ---- of two lists of tests, a fault of the first
fault_front : (ts us : List Test) (n : ℕ) → n ≡ first_fault ts → (n ≡ 0 → ⊥) → n ≡ first_fault (ts ++ us)
unfolding first_fault
fault_front [] us n e d = absurd (d e)
fault_front ((m when true) ∷ ts) us n e d = e
fault_front ((m when false) ∷ ts) us n e d = fault_front ts us n e d

pub refused_front : (ts us : List Test) (f : Refusal) → Refuses (unless_fault ts) f → Refuses (unless_fault (ts ++ us)) f
refused_front ts us f R next =
    let n = first_fault ts in
    by_test (eqb n 0)
    (λ z. absurd (never_both (R (done []) ∙ sym (fault_passed (done []) ts n refl (eqb-true n 0 z)))))
    (λ d.
    let there = eqb-false n 0 d in
    R next ∙ sym (fault_refused next ts n refl there) ∙ fault_refused next (ts ++ us) n (fault_front ts us n refl there) there)
