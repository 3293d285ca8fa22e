-- A loop that writes a list place by place. Assumes nothing.
use mathlib.Core.Path.{◌≡◌, refl, ◌∙◌}
use mathlib.Core.List.{List}
use mathlib.Core.Logic.{⊎_elim}
use Prim.Native.Nat.{ℕ, ◌+◌, ◌≤◌, ◌<◌}
use native.Mathlib.Omega.{arith}
use lib.ListN.{length, get_or, set, length-set}
use lib.Seq.{ext_get_or, get_or-set_same, get_or-set_other}
use Rattle.counting.proofs.Cases.{lt_or_le, same_or_not}

-- the places below i hold what `goal` has there, and the others what `old` has
pub record Filled {A : Type 0} (d : A) (goal old t : List A) (i : ℕ) : Type 0 where
  pub same : length t ≡ length old
  pub whole : length old ≡ length goal
  pub done : (x : ℕ) → x < i → get_or t x d ≡ get_or goal x d
  pub rest : (x : ℕ) → i ≤ x → get_or t x d ≡ get_or old x d

module _ {A : Type 0} {d : A} where
  pub filled_none : (goal old : List A) → length old ≡ length goal → Filled d goal old old 0
  filled_none goal old e = record { same = refl; whole = e; done = λ x h. absurd (omega arith); rest = λ x h. refl }

  pub filled_next : {goal old t : List A} {i : ℕ} (j : ℕ) (v : A) → j ≡ i + 1 → i < length goal → v ≡ get_or goal i d → Filled d goal old t i → Filled d goal old (set t i v) j
  filled_next {goal} {old} {t} {i} j v z h e F = record {
    same = length-set t i v ∙ F.same;
    whole = F.whole;
    done = λ x l. ⊎_elim
        (λ q. rw q (get_or-set_same t i v d (omega arith) ∙ e))
        (λ q. get_or-set_other t i x v d q ∙ F.done x (omega arith))
        (same_or_not x i);
    rest = λ x l. get_or-set_other t i x v d (λ q. omega arith) ∙ F.rest x (omega arith);
  }

  -- the places that are left hold what they should
  pub filled_all : {goal old t : List A} {i : ℕ} → Filled d goal old t i → ((x : ℕ) → i ≤ x → x < length goal → get_or old x d ≡ get_or goal x d) → t ≡ goal
  filled_all {goal} {old} {t} {i} F left = ext_get_or d t goal (F.same ∙ F.whole) (λ x l. ⊎_elim (F.done x) (λ h. F.rest x h ∙ left x h (omega arith)) (lt_or_le x i))
