-- Figures of 01, as theorems about the definitions. Assumes nothing.
use mathlib.Core.Path.{◌≡◌, refl, sym, ap₂, ◌∙◌}
use mathlib.Core.Bool.{true, false, or-false, and-false}
use mathlib.Core.List.{List, [], ◌∷◌, map}
use mathlib.Core.Logic.{inr, ⊎_elim}
use Prim.Native.Nat.{ℕ, zero, suc, ◌+◌, ◌-◌, ◌*◌, ◌/◌, ◌%◌, ◌≤◌, ◌<◌}
use native.Mathlib.Omega.{arith}
use lib.Dec.{eqb, leb, ltb}
use borrow.Author.Tests.{eq-eqb, ne_eqb, le-leb, lt-leb, lt-ltb}
use Rattle.counting.specs.Count.{bit, count_below}
use Rattle.counting.specs.Periodic.{owns}
use Rattle.counting.specs.Elements.{times}
use Rattle.counting.proofs.Cases.{lt_or_le, same_or_not}
use Rattle.counting.proofs.Counts.{count_none}
use Rattle.counting.proofs.Periods.{rank_owns}
use Rattle.families.specs.Forest.{Forest, nil, node, any_below, in_segments, has, inner, end_of, size_of, Stride, WF}
use Rattle.families.proofs.Division.{by_division, leaf_div, segments_count}
use Rattle.families.proofs.Forests.{each_leaf, rank_node, size_node, size_at}

-- ---- the two nested families of 000's intersection example: (0,7,16,2,{(0,1,4,2)}) and (0,3,8,4,{(0,0,2,2)})
unfoldable pub pairs : Forest
pairs = node 0 7 16 2 (node 0 1 4 2 nil nil) nil

unfoldable pub singles : Forest
singles = node 0 3 8 4 (node 0 0 2 2 nil nil) nil

pub pairs_size : size_of pairs ≡ 8
unfolding pairs size_of end_of has in_segments any_below count_below
pairs_size = refl

pub pairs_rank : count_below (has pairs) 16 ≡ 4
unfolding pairs has in_segments any_below count_below
pairs_rank = refl

pub singles_rank : count_below (has singles) 16 ≡ 4
unfolding singles has in_segments any_below count_below
singles_rank = refl

-- ---- layout C, the panel: element c is (20c, 20c + 19, 80, 24), by the laws, since counting 1,920 offsets one by one takes long
unfoldable pub controller : (c : ℕ) → Forest
controller c = node (20 * c) (20 * c + 19) 80 24 nil nil

unfoldable pub controllers : List Forest
controllers = controller 0 ∷ controller 1 ∷ controller 2 ∷ controller 3 ∷ []

none : (x : ℕ) → count_below (has nil) x ≡ 0
unfolding has
none x = count_none _ x (λ _ _. refl)

nil_size : size_of nil ≡ 0
unfolding size_of end_of
nil_size = none 0

module _ (c : ℕ) (h : c ≤ 3) where
  stride : Stride (20 * c) (20 * c + 19) 80 24
  stride = inr (omega arith, omega arith)

  pub controller_ok : WF 0 65535 (controller c)
  unfolding controller WF
  controller_ok = (record { some = omega arith; forward = omega arith; stride = stride; after = omega arith; inside = omega arith }, tt, tt)

  pub controller_size : size_of (controller c) ≡ 480
  unfolding controller
  controller_size =
      let long : 20 * c + 19 - 20 * c + 1 ≡ 20 = omega arith in
      size_node 0 65535 (20 * c) (20 * c + 19) 80 24 nil nil controller_ok ∙ ap₂ (λ (m d : ℕ). 24 * m + d) (each_leaf nil (20 * c + 19 - 20 * c + 1) refl ∙ long) nil_size

  by_division_lem : (x : ℕ) → has (controller c) x ≡ by_division (20 * c) (20 * c + 19) 80 24 x
  unfolding controller has
  by_division_lem x = or-false (in_segments (λ _. true) (20 * c) (20 * c + 19) 80 24 x) ∙ leaf_div (20 * c) (20 * c + 19) 80 24 x stride

  module _ (x : ℕ) (l : x < 1920) where
    -- which ten columns x is in
    own_column : x % 80 / 20 ≡ c → by_division (20 * c) (20 * c + 19) 80 24 x ≡ true
    own_column e = rw (le-leb (20 * c) x (omega arith), lt-ltb ((x - 20 * c) / 80) 24 (omega arith), le-leb ((x - 20 * c) % 80) (20 * c + 19 - 20 * c) (omega arith)) refl

    other_column : (x % 80 / 20 ≡ c → ⊥) → by_division (20 * c) (20 * c + 19) 80 24 x ≡ false
    other_column d = ⊎_elim
        (λ before. rw (lt-leb (20 * c) x before) refl)
        (λ after. rw (lt-leb ((x - 20 * c) % 80) (20 * c + 19 - 20 * c) (omega arith), and-false (ltb ((x - 20 * c) / 80) 24)) (and-false (leb (20 * c) x)))
        (lt_or_le x (20 * c))

    by_column : has (controller c) x ≡ eqb (x % 80 / 20) c
    by_column = by_division_lem x ∙ ⊎_elim (λ e. own_column e ∙ sym (eq-eqb _ _ e)) (λ d. other_column d ∙ sym (ne_eqb _ _ d)) (same_or_not (x % 80 / 20) c)

one_of_four : (k : ℕ) → k < 4 → bit (eqb k 0) + (bit (eqb k 1) + (bit (eqb k 2) + (bit (eqb k 3) + 0))) ≡ 1
one_of_four zero h = refl
one_of_four (suc zero) h = refl
one_of_four (suc (suc zero)) h = refl
one_of_four (suc (suc (suc zero))) h = refl
one_of_four (suc (suc (suc (suc k)))) h = absurd (omega arith)

-- every node is in one controller's columns
pub panel_once : (x : ℕ) → x < 1920 → times (map has controllers) x ≡ 1
unfolding controllers times
panel_once x l =
    rw (by_column 0 (omega arith) x l, by_column 1 (omega arith) x l, by_column 2 (omega arith) x l, by_column 3 (omega arith) x l)
    (one_of_four (x % 80 / 20) (omega arith))

-- the first three rows and four bytes of the fourth
panel_rank_264 : count_below (has (controller 1)) 264 ≡ 64
unfolding controller
panel_rank_264 =
    rank_node 0 65535 20 39 80 24 nil nil (controller_ok 1 (omega arith)) 264
    ∙ ap₂ (λ (c d : ℕ). c + d) (segments_count (inner nil) 20 39 80 24 264 (inr (omega arith, omega arith)) ∙ ap₂ (λ (c d : ℕ). 3 * c + d) (each_leaf nil 20 refl) (each_leaf nil 4 refl)) (none 264)

-- 9,864 is row 3, column 12 of frame 5
pub panel_rank : count_below (owns 0 1920 (has (controller 1))) 9864 ≡ 2464
unfolding end_of controller
panel_rank =
    rank_owns 0 1920 (has (controller 1)) 9864 (omega arith) (omega arith)
    ∙ ap₂ (λ (c d : ℕ). 5 * c + d) (size_at (controller 1) 1920 (omega arith) ∙ controller_size 1 (omega arith)) panel_rank_264

pub panel_has : owns 0 1920 (has (controller 1)) 9864 ≡ true
unfolding controller has in_segments any_below
panel_has = refl
