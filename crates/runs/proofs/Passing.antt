-- The loop of `pass`: every offset that was passed is as wanted. Assumes nothing.
use mathlib.Core.Path.{◌≡◌, refl, sym, ap, ap₂, ◌∙◌}
use mathlib.Core.Bool.{Bool, true, false, ◌&&◌, not, beq}
use mathlib.Core.List.{List}
use mathlib.Core.Logic.{⊎_elim}
use Prim.Native.Nat.{ℕ, ◌+◌, ◌-◌, ◌^◌, ◌≤◌, ◌<◌}
use native.Mathlib.Omega.{arith}
use borrow.Author.Tests.{not-true, not-false}
use Rattle.counting.proofs.Cases.{lt_or_le}
use Rattle.counting.proofs.Stretches.{stretch_is}
use Rattle.maps.specs.declared.Selection.{Selection}
use Rattle.runs.specs.declared.walks.Side.{Side}
use Rattle.runs.specs.declared.walks.Walk.{Walk}
use Rattle.runs.specs.Listing.{both}
use Rattle.runs.specs.Walking.{marked, Marks, tabled, Stands, WalksTo, next_side, is, Passed}
use Rattle.runs.proofs.Sides.{side_marks, rank_small, selected_here, next_stands}

-- the code compares the two bools
compared : (w b : Bool) → beq b w ≡ is w b
compared true true = refl
compared true false = refl
compared false true = refl
compared false false = refl

abbrev walk_at : (x : ℕ) → (one two : Side) → Walk
walk_at x one two = record { x = record { 0 = x }; one = one; two = two }

-- the walk has come from `from` to x, on its way to `end`
pub record Passing (s1 s2 : Selection) (table1 table2 : List ℕ) (wanted : Bool) (end from x : ℕ) (one two : Side) : Type 0 where
  pub one_stands : Stands s1 table1 x one
  pub two_stands : Stands s2 table2 x two
  pub begun : from ≤ x
  pub most : x ≤ end
  pub near : end ≤ 2 ^ 40
  pub passed : (y : ℕ) → from ≤ y → y < x → is wanted (both (tabled s1 table1) (tabled s2 table2) y) ≡ true

pub passing_start : {s1 s2 : Selection} {table1 table2 : List ℕ} {w : Walk} {end : ℕ} (wanted : Bool) → WalksTo end s1 s2 table1 table2 w
    → Passing s1 s2 table1 table2 wanted end w.x.0 w.x.0 w.one w.two
passing_start wanted W = record {
  one_stands = W.walks.one;
  two_stands = W.walks.two;
  begun = omega arith;
  most = W.window;
  near = W.near;
  passed = λ y u v. absurd (omega arith);
}

module _ {s1 s2 : Selection} {table1 table2 : List ℕ} {wanted : Bool} {end from x : ℕ} {one two : Side}
    (P : Passing s1 s2 table1 table2 wanted end from x one two) where
  abbrev shared : ℕ → Bool
  shared = both (tabled s1 table1) (tabled s2 table2)

  -- ---- what the loop asks of the two functions on a side
  pub passing_marks : Marks table1 one.place × Marks table2 two.place
  passing_marks = (side_marks P.one_stands, side_marks P.two_stands)

  pub passing_ranks : (one.rank.0 ≤ 2 ^ 40) × (two.rank.0 ≤ 2 ^ 40)
  passing_ranks = (omega (arith, rank_small P.one_stands, P.most, P.near), omega (arith, rank_small P.two_stands, P.most, P.near))

  -- ---- x is the end, or not as wanted
  passing_there : (x < end → is wanted (shared x) ≡ false) → Passed s1 s2 table1 table2 wanted end from (walk_at x one two)
  passing_there stops =
      let at : from + (x - from) ≡ x = omega (arith, P.begun) in
      let long = stretch_is (λ y. is wanted (shared y)) (x - from) from (end - from) (omega (arith, P.begun, P.most))
      (λ y u v. P.passed y u (omega (arith, at)))
      (λ k. ap (λ (i : ℕ). is wanted (shared i)) at ∙ stops (omega arith)) in
      record { walks = record { one = P.one_stands; two = P.two_stands }; up_to = omega (arith, at, long) }

  -- ---- whether x is in both
  module _ (b : Bool) (e : b ≡ (marked table1 one.place && marked table2 two.place)) where
    here : shared x ≡ b
    here = ap₂ ◌&&◌ (selected_here P.one_stands) (selected_here P.two_stands) ∙ sym e

    here_wanted : not (beq b wanted) ≡ false → is wanted (shared x) ≡ true
    here_wanted w = ap (is wanted) here ∙ sym (compared wanted b) ∙ not-false _ w

    here_unwanted : not (beq b wanted) ≡ true → is wanted (shared x) ≡ false
    here_unwanted w = ap (is wanted) here ∙ sym (compared wanted b) ∙ not-true _ w

    pub passing_next : not (beq b wanted) ≡ false → x < end
        → (one' two' : Side) → one' ≡ next_side table1 s1.period one → two' ≡ next_side table2 s2.period two
        → Passing s1 s2 table1 table2 wanted end from (x + 1) one' two'
    passing_next w l one' two' f g = record {
      one_stands = next_stands P.one_stands one' f;
      two_stands = next_stands P.two_stands two' g;
      begun = omega (arith, P.begun);
      most = omega arith;
      near = P.near;
      passed = λ y u v. ⊎_elim (P.passed y u) (λ k. ap (λ (i : ℕ). is wanted (shared i)) (let z : y ≡ x = omega arith in z) ∙ here_wanted w) (lt_or_le y x);
    }

    pub passing_stop : not (beq b wanted) ≡ true → Passed s1 s2 table1 table2 wanted end from (walk_at x one two)
    passing_stop n = passing_there (λ _. here_unwanted n)

  pub passing_end : end ≤ x → Passed s1 s2 table1 table2 wanted end from (walk_at x one two)
  passing_end l = passing_there (λ k. absurd (omega arith))
