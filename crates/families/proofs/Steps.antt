-- A loop over siblings: the family at an index with its children, and the younger siblings that follow. Assumes nothing.
use mathlib.Core.Path.{◌≡◌, refl, ap₂}
use mathlib.Core.Bool.{true, false}
use mathlib.Core.List.{List}
use mathlib.Core.Logic.{⊎_elim}
use Prim.Native.Nat.{ℕ, zero, suc, ◌+◌, ◌-◌, ◌≤◌, ◌<◌}
use native.Mathlib.Omega.{arith}
use lib.ListN.{length, get_or-eq_default}
use Rattle.counting.proofs.Cases.{lt_or_le}
use Rattle.families.specs.declared.Family.{Family}
use Rattle.families.specs.declared.siblings.Siblings.{Siblings}
use Rattle.families.specs.Forest.{Forest, nil, node, is_nil, last_byte, WF, FARTHEST}
use Rattle.families.specs.Decoded.{no_family, family_in, siblings, forest_at, FitsIn}
use Rattle.families.proofs.Forests.{wf_wider, ruled}

-- the children of a family f that stands at `at`, its younger siblings, and all three as a tree
abbrev pub kids_of : (levels : ℕ) (look : ℕ → Family) (at : ℕ) → Family → Forest
kids_of levels look at f = forest_at (levels - 1) look (at + 1) f.children

abbrev pub rest_of : (levels : ℕ) (look : ℕ → Family) (at left : ℕ) → Family → Forest
rest_of levels look at left f = forest_at levels look (at + f.span) (left - 1)

abbrev node_of : (levels : ℕ) (look : ℕ → Family) (at left : ℕ) → Family → Forest
node_of levels look at left f = node f.l f.r f.s f.n (kids_of levels look at f) (rest_of levels look at left f)

-- f stands at `at`, where `left` families are left and meet the rules
pub record Step (levels : ℕ) (look : ℕ → Family) (at left bound : ℕ) (f : Family) : Type 0 where
  pub deep : 1 ≤ levels
  pub is : forest_at levels look at left ≡ node f.l f.r f.s f.n (kids_of levels look at f) (rest_of levels look at left f)
  pub ok : WF 0 bound (node f.l f.r f.s f.n (kids_of levels look at f) (rest_of levels look at left f))
  pub fits : FitsIn bound f
  pub kids_ok : WF 0 (f.r - f.l) (kids_of levels look at f)
  pub rest_ok : WF 0 bound (rest_of levels look at left f)

looked_up : (levels : ℕ) (look : ℕ → Family) (at left bound : ℕ) → 0 < left → WF 0 bound (forest_at levels look at left)
    → (1 ≤ levels) × (forest_at levels look at left ≡ node_of levels look at left (look at))
unfolding WF forest_at siblings
looked_up levels look at zero bound h w = absurd (omega arith)
looked_up zero look at (suc left) bound h w = absurd (omega (arith, w.0.some))
looked_up (suc d) look at (suc left) bound h w =
    let up : suc d - 1 ≡ d = omega arith in
    let one : suc left - 1 ≡ left = omega arith in
    (omega arith, rw (up, one) refl)

pub step : (levels : ℕ) (look : ℕ → Family) (at left bound : ℕ) (f : Family) → 0 < left → WF 0 bound (forest_at levels look at left) → f ≡ look at → Step levels look at left bound f
step levels look at left bound f h w e =
    let found = looked_up levels look at left bound h w in
    let is : forest_at levels look at left ≡ node_of levels look at left f = rw e found.1 in
    let ok : WF 0 bound (node_of levels look at left f) = rw is at w in
    let R = ruled ok in
    record {
      deep = found.0;
      is = is;
      ok = ok;
      fits = R.fits;
      kids_ok = R.kids_ok;
      rest_ok = wf_wider (rest_of levels look at left f) (omega arith) (omega arith) R.rest_ok;
    }

-- no families are left
pub none_left : (levels : ℕ) (look : ℕ → Family) (i k : ℕ) → k ≡ 0 → forest_at levels look i k ≡ nil
unfolding forest_at siblings
none_left zero look i k e = rw e refl
none_left (suc d) look i k e = rw e refl

pub leaf : (levels : ℕ) (look : ℕ → Family) (i k : ℕ) → k ≡ 0 → is_nil (forest_at levels look i k) ≡ true
leaf levels look i k e = rw (none_left levels look i k e) refl

pub branch : (levels : ℕ) (look : ℕ → Family) (i k : ℕ) → (k ≡ 0 → ⊥) → is_nil (forest_at levels look i k) ≡ false
unfolding forest_at siblings
branch levels look i zero h = absurd (h refl)
branch zero look i (suc k) h = refl
branch (suc d) look i (suc k) h = refl

-- a tree that keeps the rules is read the same with more levels
pub deeper : (levels more : ℕ) (look : ℕ → Family) (i k from bound : ℕ) → levels ≤ more → WF from bound (forest_at levels look i k)
    → forest_at more look i k ≡ forest_at levels look i k
unfolding WF forest_at siblings
deeper zero more look i zero from bound h w = none_left more look i 0 refl
deeper zero more look i (suc k) from bound h w = absurd (omega (arith, w.0.some))
deeper (suc d) zero look i k from bound h w = absurd (omega arith)
deeper (suc d) (suc m) look i zero from bound h w = refl
deeper (suc d) (suc m) look i (suc k) from bound h w =
    let f = look i in
    ap₂ (λ (kids rest : Forest). node f.l f.r f.s f.n kids rest)
    (deeper d m look (i + 1) f.children 0 (f.r - f.l) (omega arith) w.1)
    (deeper (suc d) (suc m) look (i + f.span) k (last_byte f.l f.r f.s f.n + 1) bound h w.2)

pub ruled_deeper : (levels more : ℕ) (look : ℕ → Family) (i k bound : ℕ) → levels ≤ more → WF 0 bound (forest_at levels look i k) → WF 0 bound (forest_at more look i k)
ruled_deeper levels more look i k bound h w = rw (deeper levels more look i k 0 bound h w) w

-- a family that has a segment is in the list
held : (families : List Family) (at bound : ℕ) → FitsIn bound (family_in families at) → at < length families
held families at bound f =
    let none : length families ≤ at → family_in families at ≡ no_family = λ l. get_or-eq_default families no_family l in
    ⊎_elim (λ l. l) (λ l. absurd (omega (arith, rw (none l) at f.some))) (lt_or_le at (length families))

-- what stands first in siblings that are lent
pub eldest : (s : Siblings) → 1 ≤ s.count → Step s.levels (family_in s.families.now) s.first s.count FARTHEST (family_in s.families.now s.first)
eldest s h = step _ _ _ _ _ _ h s.ruled refl

pub listed : (s : Siblings) → 1 ≤ s.count → s.first < length s.families.now
listed s h = held s.families.now s.first FARTHEST (eldest s h).fits
