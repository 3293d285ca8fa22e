-- Which elements have a number. Assumes nothing.
use mathlib.Core.Path.{◌≡◌, refl, sym, ap, ◌∙◌}
use mathlib.Core.Bool.{Bool, true, false, ◌&&◌, true≢false}
use mathlib.Core.List.{[], ◌∷◌, ◌++◌, map}
use Prim.Native.Nat.{ℕ, zero, suc, ◌+◌, ◌-◌, ◌%◌, ◌≤◌, ◌<◌}
use native.Mathlib.Nat.{zero-add}
use native.Mathlib.Omega.{arith}
use lib.ListN.{length, take, drop}
use lib.Seq.{split_at}
use borrow.Author.Tests.{le-leb}
use Rattle.counting.specs.Count.{bit}
use Rattle.counting.specs.Periodic.{owns}
use Rattle.counting.specs.Gather.{tabulated}
use Rattle.counting.specs.Elements.{Elements, element, times, first_of}
use Rattle.counting.proofs.Cases.{by_test}
use Rattle.counting.proofs.Gathers.{get_or_tabulated}

-- ---- an element that has x is counted, and the first that has it is one
pub times_some : (L : Elements) (x i : ℕ) → element L i x ≡ true → 1 ≤ times L x
unfolding times
times_some [] x i h = absurd (true≢false (sym h))
times_some (p ∷ L) x zero h = rw h (omega arith)
times_some (p ∷ L) x (suc i) h = omega (arith, times_some L x i h)

pub first_lt : (L : Elements) (x : ℕ) → 1 ≤ times L x → first_of L x < length L
unfolding times first_of
first_lt [] x h = absurd (omega arith)
first_lt (p ∷ L) x h = by_test (p x) (λ e. rw e (omega arith)) (λ e. rw e (omega (arith, first_lt L x (omega (arith, rw e at h)))))

pub first_has : (L : Elements) (x : ℕ) → 1 ≤ times L x → element L (first_of L x) x ≡ true
unfolding times first_of
first_has [] x h = absurd (omega arith)
first_has (p ∷ L) x h = by_test (p x) (λ e. rw e e) (λ e. rw e (first_has L x (omega (arith, rw e at h))))

pub first_only : (L : Elements) (x i : ℕ) → times L x ≡ 1 → element L i x ≡ true → first_of L x ≡ i
unfolding times first_of
first_only [] x i t h = absurd (omega arith)
first_only (p ∷ L) x zero t h = rw h refl
first_only (p ∷ L) x (suc i) t h = by_test (p x)
    (λ q. absurd (omega (arith, times_some L x i h, rw q at t)))
    (λ q. rw q (ap suc (first_only L x i (omega (arith, rw q at t)) h)))

-- two elements never share a number that is in exactly one
pub elements_apart : (L : Elements) (x i j : ℕ) → times L x ≡ 1 → (i ≡ j → ⊥) → (element L i x && element L j x) ≡ false
elements_apart L x i j once differ = by_test (element L i x)
    (λ p. by_test (element L j x) (λ q. absurd (differ (sym (first_only L x i once p) ∙ first_only L x j once q))) (λ q. rw (p, q) refl))
    (λ p. rw p refl)

-- ---- elements and then further ones
pub times_append : (L M : Elements) (x : ℕ) → times (L ++ M) x ≡ times L x + times M x
unfolding times
times_append [] M x = sym (zero-add _)
times_append (p ∷ L) M x = omega (arith, times_append L M x)

-- those before element i, element i, and those after it
pub times_around : (L : Elements) (x i : ℕ) → i < length L → times L x ≡ times (take i L) x + (bit (element L i x) + times (drop (suc i) L) x)
unfolding times
times_around L x i h = ap (λ (K : Elements). times K x) (split_at L i (λ _. false) h) ∙ times_append (take i L) (element L i ∷ drop (suc i) L) x

-- ---- element e of as many as are tabulated
pub element_tabulated : (f : ℕ → ℕ → Bool) (n e : ℕ) → e < n → element (tabulated 0 n f) e ≡ f e
element_tabulated f n e h = get_or_tabulated 0 n f e _ h ∙ ap f (zero-add e)

-- ---- a pattern repeated from d on: x is in as many elements as its place in the pattern is
pub times_owns : (L : Elements) (d P x : ℕ) → d ≤ x → times (map (owns d P) L) x ≡ times L ((x - d) % P)
unfolding times
times_owns [] d P x h = refl
times_owns (p ∷ L) d P x h = rw (le-leb d x h, times_owns L d P x h) refl
