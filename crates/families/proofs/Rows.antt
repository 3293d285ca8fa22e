-- The families' numbers in a row look up as the array does, and give the same trees; and so do the families that are lent. Assumes nothing.
use mathlib.Core.Path.{◌≡◌, refl, sym, ap, ◌∙◌}
use mathlib.Core.List.{List, [], ◌∷◌}
use Prim.Native.Nat.{ℕ, zero, suc}
use native.Mathlib.Numerals.{unary_clauses}
use Rattle.families.specs.declared.Family.{Family}
use Rattle.families.specs.declared.siblings.Siblings.{Siblings}
use Rattle.families.specs.Decoded.{family_in, forest_at}
use Rattle.families.specs.Lent.{forest_of, LentAs}
use Rattle.families.specs.Rows.{row_of, family_at}

pub row_at : (fams : List Family) (i : ℕ) → family_at (row_of fams) i ≡ family_in fams i
unfolding row_of
row_at [] i = refl
row_at (f ∷ fams) zero = refl
row_at (f ∷ fams) (suc i) = simp unary_clauses (simp unary_clauses at (row_at fams i))

pub row_tree : (levels : ℕ) (fams : List Family) (i k : ℕ) → forest_at levels (family_at (row_of fams)) i k ≡ forest_at levels (family_in fams) i k
row_tree levels fams i k = ap (λ (look : ℕ → Family). forest_at levels look i k) (λ d x. row_at fams x d)

-- what the code goes through is no row but siblings that are lent of a whole list, as `Layout::siblings` lends them of the layout's array
module _ {s : Siblings} {all : List Family} {i k n : ℕ} (L : LentAs s all i k n) where
  pub lent_at : (j : ℕ) → family_in s.families.now j ≡ family_in all j
  lent_at j = ap (λ (fams : List Family). family_in fams j) L.families

  pub lent_tree : (levels j m : ℕ) → forest_at levels (family_in s.families.now) j m ≡ forest_at levels (family_in all) j m
  lent_tree levels j m = ap (λ (look : ℕ → Family). forest_at levels look j m) (λ d x. lent_at x d)

  -- so their tree is the one that is asked for
  pub lent_is : forest_of s ≡ forest_at n (family_in all) i k
  lent_is = rw (lent_tree s.levels s.first s.count, L.first, L.count, L.levels) refl

  -- and nothing of them is left open
  pub lent_once : {t : Siblings} → LentAs t all i k n → LentAs t s.families.now s.first s.count s.levels
  lent_once M = record { families = M.families ∙ sym L.families; first = M.first ∙ sym L.first; count = M.count ∙ sym L.count; levels = M.levels ∙ sym L.levels }
