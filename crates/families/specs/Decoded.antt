-- A decoded layout: its families stand in an array, each followed by its children, and are read back as trees.
-- Assumes nothing: these are definitions.
use Rattle.std.specs.Prelude.{◌≡◌, Bool, true, List, ℕ, zero, suc, ◌+◌, ◌≤◌, ◌<◌, get_or}
use Rattle.counting.specs.Gather.{tabulated}
use Rattle.families.specs.declared.Family.{Family}
use Rattle.families.specs.declared.Element.{Element}
use Rattle.families.specs.declared.Layout.{Layout}
use Rattle.families.specs.Forest.{Forest, nil, node, in_segments, has, Fits, WF}

-- one family by itself: its segments with what `inner` selects in each, those segments whole, and the sheet rules
abbrev pub segments_of : Family → (inner : ℕ → Bool) → ℕ → Bool
segments_of f inner x = in_segments inner f.l f.r f.s f.n x

abbrev pub leaf_of : Family → ℕ → Bool
leaf_of f x = segments_of f (λ _. true) x

abbrev pub FitsIn : (bound : ℕ) → Family → Type 0
FitsIn bound f = Fits 0 bound f.l f.r f.s f.n

-- what unused room holds: a family with no segment, which no sheet rule admits, and an element with no family
abbrev pub no_family : Family
no_family = record { l = 0; r = 0; s = 0; n = 0; children = 0; span = 0 }

abbrev pub no_element : Element
no_element = record { first = 0; tops = 0; span = 0 }

-- family i of an array, and no family past its end
abbrev pub family_in : List Family → ℕ → Family
family_in families i = get_or families i no_family

-- n of the 256 families that `look` finds by their index are in use: from n on there is none
pub record InUse (n : ℕ) (look : ℕ → Family) : Type 0 where
  pub most : n ≤ 256
  pub none : (i : ℕ) → n ≤ i → look i ≡ no_family

-- k siblings, the first at i: a family's children follow it at once, and its next sibling stands `span` further on.
-- `look` finds a family by its index, and `below` gives the children
unfoldable pub siblings : (below : ℕ → ℕ → Forest) (look : ℕ → Family) → ℕ → ℕ → Forest
siblings below look i zero = nil
siblings below look i (suc k) =
    node (look i).l (look i).r (look i).s (look i).n (below (i + 1) (look i).children) (siblings below look (i + (look i).span) k)

-- deeper than the levels allowed no families is fine, and any other number is not
abbrev pub too_deep : ℕ → Forest
too_deep zero = nil
too_deep (suc k) = node 0 0 0 0 nil nil

-- THE TREE: the k families that start at i, `levels` levels deep at most
unfoldable pub forest_at : (levels : ℕ) (look : ℕ → Family) → ℕ → ℕ → Forest
forest_at zero look i k = too_deep k
forest_at (suc levels) look i k = siblings (forest_at levels look) look i k

-- element e of a layout and its tree, the trees of all elements, and what each selects of the pattern
abbrev pub element_of : Layout → ℕ → Element
element_of t e = get_or t.element e no_element

abbrev pub tree_of : (levels : ℕ) → Layout → ℕ → Forest
tree_of levels t e = forest_at levels (family_in t.family) (element_of t e).first (element_of t e).tops

unfoldable pub trees_of : (levels : ℕ) → Layout → List Forest
trees_of levels t = tabulated 0 t.elements (tree_of levels t)

unfoldable pub selections : (levels : ℕ) → Layout → List (ℕ → Bool)
selections levels t = tabulated 0 t.elements (λ e. has (tree_of levels t e))

-- every element has a family, and meets the sheet rules; unused room holds no family
pub record LayoutOk (levels bound : ℕ) (t : Layout) : Type 0 where
  pub room : t.elements ≤ 16
  pub used : InUse t.families (family_in t.family)
  pub some : (e : ℕ) → e < t.elements → 1 ≤ (element_of t e).tops
  pub ruled : (e : ℕ) → e < t.elements → WF 0 bound (tree_of levels t e)
