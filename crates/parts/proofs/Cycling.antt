-- The layout that a table of owners stands for: its elements, and that each number is one's. Assumes nothing.
use mathlib.Core.Path.{◌≡◌, refl, sym, ap, ◌∙◌}
use mathlib.Core.Bool.{Bool, true, false}
use mathlib.Core.List.{List}
use mathlib.Core.Logic.{⊎_elim}
use Prim.Native.Nat.{ℕ, zero, suc, ◌+◌, ◌-◌, ◌%◌, ◌≤◌, ◌<◌}
use native.Mathlib.Nat.{add-sub_of_le, mod-lt}
use native.Mathlib.Omega.{arith}
use lib.ListN.{length, get_or}
use borrow.Author.Tests.{eq-eqb, ne_eqb}
use Rattle.counting.specs.Count.{bit}
use Rattle.counting.specs.Periodic.{owns}
use Rattle.counting.specs.Gather.{tabulated}
use Rattle.counting.specs.Elements.{element, times, Partition}
use Rattle.counting.proofs.Cases.{same_or_not}
use Rattle.counting.proofs.Gathers.{length_tabulated}
use Rattle.counting.proofs.Elements.{element_tabulated}
use Rattle.counting.proofs.Periods.{owns_at}
use Rattle.moves.specs.Owning.{held_by}
use Rattle.parts.specs.Tabled.{tabled, Owned}

-- ---- tests f a, f (a + 1), .. of which none has x, or one alone
times_none : (a n : ℕ) (f : ℕ → ℕ → Bool) (x : ℕ) → ((e : ℕ) → a ≤ e → e < a + n → f e x ≡ false) → times (tabulated a n f) x ≡ 0
unfolding tabulated times
times_none a zero f x h = refl
times_none a (suc n) f x h = omega (arith, ap bit (h a (omega arith) (omega arith)), times_none (suc a) n f x (λ e u v. h e (omega arith) (omega arith)))

times_one : (a n : ℕ) (f : ℕ → ℕ → Bool) (x k : ℕ) → a ≤ k → k < a + n → f k x ≡ true → ((e : ℕ) → (e ≡ k → ⊥) → f e x ≡ false) → times (tabulated a n f) x ≡ 1
unfolding tabulated times
times_one a zero f x k h l t others = absurd (omega arith)
times_one a (suc n) f x k h l t others = ⊎_elim
    (λ e. omega (arith, ap (λ (i : ℕ). bit (f i x)) e, ap bit t, times_none (suc a) n f x (λ i u v. others i (λ z. omega arith))))
    (λ d. omega (arith, ap bit (others a d), times_one (suc a) n f x k (omega arith) (omega arith) t others))
    (same_or_not a k)

module _ (count from period : ℕ) (owners : List ℕ) where
  pub length_tabled : length (tabled count from period owners) ≡ count
  unfolding tabled
  length_tabled = length_tabulated 0 count _

  -- the element of owner o
  pub element_tabled : (o : ℕ) → 1 ≤ o → o ≤ count → element (tabled count from period owners) (o - 1) ≡ owns from period (held_by owners o)
  unfolding tabled
  element_tabled o some most =
      element_tabulated (λ e. owns from period (held_by owners (suc e))) count (o - 1) (omega arith)
      ∙ ap (λ (i : ℕ). owns from period (held_by owners i)) (let z : suc (o - 1) ≡ o = omega arith in z)

  -- from the layout's start on owner o has the numbers of its places
  owner_at : (o x : ℕ) → from ≤ x → owns from period (held_by owners o) x ≡ held_by owners o ((x - from) % period)
  owner_at o x h = ap (owns from period (held_by owners o)) (sym (add-sub_of_le h)) ∙ owns_at from period (held_by owners o) (x - from)

  -- EVERY NUMBER from there on is one element's
  pub tabled_once : Owned count period owners → 1 ≤ period → (a n : ℕ) → from ≤ a → Partition (tabled count from period owners) a n
  unfolding tabled
  tabled_once O some a n after x h k =
      let u = (x - from) % period in
      let o = get_or owners u 0 in
      let inside : u < period = mod-lt (x - from) some in
      let first = O.some u inside in
      let last = O.most u inside in
      times_one 0 count (λ e. owns from period (held_by owners (suc e))) x (o - 1) (omega arith) (omega arith)
      (owner_at (suc (o - 1)) x (omega arith) ∙ eq-eqb o (suc (o - 1)) (omega arith))
      (λ e d. owner_at (suc e) x (omega arith) ∙ ne_eqb o (suc e) (λ z. d (omega arith)))
