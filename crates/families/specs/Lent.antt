-- Families that are lent: the tree that they are, and how a list of siblings splits. Assumes nothing: these are definitions.
use Rattle.std.specs.Prelude.{◌≡◌, List, ℕ, ◌+◌}
use Rattle.families.specs.declared.Family.{Family}
use Rattle.families.specs.declared.nested.Nested.{Nested}
use Rattle.families.specs.declared.siblings.Siblings.{Siblings}
use Rattle.families.specs.Forest.{Forest, node}
use Rattle.families.specs.Decoded.{family_in, forest_at}

-- THE TREE of siblings with their children
abbrev pub forest_of : Siblings → Forest
forest_of s = forest_at s.levels (family_in s.families.now) s.first s.count

-- WHICH FAMILIES ARE LENT: of a whole list the k siblings from i on, n levels deep at most. Their tree alone leaves n open: what keeps the rules is read the
-- same with more levels (`deeper`, proofs/Steps)
pub record LentAs (s : Siblings) (all : List Family) (i k n : ℕ) : Type 0 where
  pub families : s.families.now ≡ all
  pub first : s.first ≡ i
  pub count : s.count ≡ k
  pub levels : s.levels ≡ n

-- siblings are their eldest with its children, and the younger ones
pub record Split (all : Siblings) (eldest : Nested) (younger : Siblings) : Type 0 where
  pub is : forest_of all ≡ node eldest.family.l eldest.family.r eldest.family.s eldest.family.n (forest_of eldest.children) (forest_of younger)
  pub deep : all.levels ≡ eldest.children.levels + 1
  pub same : younger.levels ≡ all.levels
  pub left : all.count ≡ younger.count + 1
