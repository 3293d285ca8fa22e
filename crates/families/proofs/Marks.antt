-- Marking a place, and painting a table: each place by itself. Assumes nothing.
use mathlib.Core.Path.{◌≡◌, refl, sym, ap, ◌∙◌}
use mathlib.Core.Bool.{Bool, true, false, ◌||◌, cond, or-true}
use mathlib.Core.List.{List, [], ◌∷◌}
use Prim.Native.Nat.{ℕ, zero, suc, ◌+◌, ◌<◌}
use native.Mathlib.Nat.{add-zero, zero-add}
use native.Mathlib.Omega.{arith}
use lib.Dec.{eqb}
use lib.ListN.{length, get_or}
use lib.Seq.{ext_get_or}
use borrow.Author.Tests.{eq-eqb, eqb-true}
use Rattle.counting.proofs.Cases.{by_test}
use Rattle.families.specs.Owners.{mark, painted, painted_from}

-- ---- a place that is marked twice is marked once
again : (me : ℕ) (b : Bool) → mark me true (cond b me 255) ≡ cond b me 255
again me true = rw (eq-eqb me me refl, or-true (eqb me 0)) refl
again me false = by_test (eqb 255 me) (λ e. rw e (sym (eqb-true 255 me e))) (λ e. rw e refl)

mark_or : (me : ℕ) (a b : Bool) (v : ℕ) → mark me b (mark me a v) ≡ mark me (a || b) v
mark_or me false b v = refl
mark_or me true false v = refl
mark_or me true true v = again me (eqb v 0 || eqb v me)

-- ---- a painted table by its places
length_from : (i : ℕ) (p : ℕ → Bool) (me : ℕ) (t : List ℕ) → length (painted_from i p me t) ≡ length t
unfolding painted_from
length_from i p me [] = refl
length_from i p me (v ∷ t) = ap suc (length_from (suc i) p me t)

get_or_from : (i : ℕ) (p : ℕ → Bool) (me : ℕ) (t : List ℕ) (x : ℕ) → x < length t → get_or (painted_from i p me t) x 0 ≡ mark me (p (i + x)) (get_or t x 0)
unfolding painted_from
get_or_from i p me [] x h = absurd (omega arith)
get_or_from i p me (v ∷ t) zero h = rw add-zero refl
get_or_from i p me (v ∷ t) (suc x) h = let e : i + suc x ≡ suc i + x = omega arith in rw e (get_or_from (suc i) p me t x (omega arith))

module _ (p : ℕ → Bool) (me : ℕ) (t : List ℕ) where
  pub length_painted : length (painted p me t) ≡ length t
  length_painted = length_from 0 p me t

  pub get_or_painted : (x : ℕ) → x < length t → get_or (painted p me t) x 0 ≡ mark me (p x) (get_or t x 0)
  get_or_painted x h = get_or_from 0 p me t x h ∙ rw zero-add refl

  pub painted_is : (t' : List ℕ) → length t' ≡ length t → ((x : ℕ) → x < length t → get_or t' x 0 ≡ mark me (p x) (get_or t x 0)) → t' ≡ painted p me t
  painted_is t' e h = ext_get_or 0 t' (painted p me t) (e ∙ sym length_painted) (λ x l. h x (omega arith) ∙ sym (get_or_painted x (omega arith)))

  pub painted_none : ((x : ℕ) → p x ≡ false) → painted p me t ≡ t
  painted_none h = sym (painted_is t refl (λ x _. rw h refl))

-- one painting after the other paints what either has
pub painted_or : (p q : ℕ → Bool) (me : ℕ) (t : List ℕ) → painted q me (painted p me t) ≡ painted (λ x. p x || q x) me t
painted_or p q me t =
    let l = length_painted p me t in
    painted_is (λ x. p x || q x) me t (painted q me (painted p me t)) (length_painted q me (painted p me t) ∙ l) (λ x h.
    get_or_painted q me (painted p me t) x (omega arith) ∙ ap (mark me (q x)) (get_or_painted p me t x h) ∙ mark_or me (p x) (q x) (get_or t x 0))
