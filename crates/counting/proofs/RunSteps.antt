-- The runs of a window one after the other: a stretch that passes is the first run, and a stretch that does not is a gap. Assumes nothing.
use mathlib.Core.Path.{◌≡◌, refl, ap, ◌∙◌}
use mathlib.Core.Bool.{Bool, true, false, not}
use mathlib.Core.List.{[], ◌∷◌}
use Prim.Native.Nat.{ℕ, zero, suc, ◌+◌, ◌-◌, ◌≤◌, ◌<◌}
use native.Mathlib.Omega.{arith}
use borrow.Author.Tests.{not-true, not-false}
use Rattle.counting.specs.Count.{stretch}
use Rattle.counting.specs.Runs.{glue, runs_of, joined}
use Rattle.counting.proofs.Stretches.{stretch_le, stretch_all, stretch_stop, stretch_some}
use Rattle.counting.proofs.Runs.{glue_far, runs_skip, runs_split, runs_none, runs_all, runs_spaced}

module _ (p : ℕ → Bool) where
  -- a run in front of what follows a number that does not pass
  glue_ended : (s m t n : ℕ) → s + m ≡ t → (0 < n → p t ≡ false) → glue s m (runs_of p t n) ≡ (s, m) ∷ runs_of p t n
  unfolding glue runs_of
  glue_ended s m t zero e h = refl
  glue_ended s m t (suc n) e h =
      rw (runs_skip p t n (h (omega arith))) (glue_far s m (suc t) (suc t + n) (runs_of p (suc t) n) (omega arith) (runs_spaced p (suc t) n))

  -- the window from x to e, where the test holds up to y
  module _ (x y e : ℕ) (some : x < e) (here : p x ≡ true) (up_to_lem : y ≡ x + stretch p x (e - x)) where
    pub first_some : x < y
    first_some = omega (arith, stretch_some p x (e - x) here (omega arith))

    -- THE FIRST RUN ends there
    pub runs_first : runs_of p x (e - x) ≡ (x, y - x) ∷ runs_of p y (e - y)
    unfolding joined
    runs_first =
        let m = y - x in
        let long : stretch p x (e - x) ≡ m = omega arith in
        let most : m ≤ e - x = omega (arith, stretch_le p x (e - x)) in
        let at : x + m ≡ y = omega arith in
        let one : suc (m - 1) ≡ m = omega (arith, first_some) in
        let whole : e - x ≡ m + (e - y) = omega arith in
        let run : runs_of p x m ≡ (x, m) ∷ [] = rw one at (runs_all p x (m - 1) (λ z u v. stretch_all p x (e - x) z u (omega arith))) in
        ap (runs_of p x) whole ∙ runs_split p x m (e - y) ∙ rw (run, at) (glue_ended x m y (e - y) at (λ h. rw up_to_lem (stretch_stop p x (e - x) (omega arith))))

  -- .. and where it fails up to y
  module _ (x y e : ℕ) (window : x ≤ e) (up_to_lem : y ≡ x + stretch (λ z. not (p z)) x (e - x)) where
    -- A GAP has no run
    pub runs_gap : runs_of p x (e - x) ≡ runs_of p y (e - y)
    unfolding joined
    runs_gap =
        let gap : ℕ → Bool = λ z. not (p z) in
        let m = y - x in
        let whole : e - x ≡ m + (e - y) = omega (arith, stretch_le gap x (e - x)) in
        let at : x + m ≡ y = omega arith in
        ap (runs_of p x) whole ∙ runs_split p x m (e - y)
        ∙ rw (runs_none p x m (λ z u v. not-true (p z) (stretch_all gap x (e - x) z u (omega arith)))) (rw at refl)

    -- .. and where it ends inside the window a run starts
    pub gap_ends : y < e → p y ≡ true
    gap_ends h = rw up_to_lem (not-false _ (stretch_stop (λ z. not (p z)) x (e - x) (omega arith)))
