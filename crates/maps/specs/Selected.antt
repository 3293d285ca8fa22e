-- A periodic selection of the file by nested families, and that of an element of a layout. Assumes nothing: these are definitions.
use Rattle.std.specs.Prelude.{◌≡◌, Bool, true, List, [], ◌∷◌, ℕ, ◌+◌, ◌^◌, ◌≤◌, ◌<◌}
use Rattle.counting.specs.Count.{count_below}
use Rattle.counting.specs.Periodic.{owns}
use Rattle.counting.specs.Gather.{tabulated}
use Rattle.counting.specs.Elements.{Elements, times}
use Rattle.families.specs.declared.Family.{Family}
use Rattle.families.specs.declared.Layout.{Layout}
use Rattle.families.specs.Forest.{Forest, has, size_of, Sound}
use Rattle.families.specs.Decoded.{family_in, forest_at, element_of, tree_of, selections, LayoutOk}
use Rattle.maps.specs.declared.Selection.{Selection}

-- the families that select, with their children
abbrev pub families_of : Selection → List Family → Forest
families_of s families = forest_at s.levels (family_in families) s.first s.tops

-- THE FILE OFFSETS of a selection
unfoldable pub belongs : Selection → List Family → ℕ → Bool
belongs s families x = owns s.from s.period (has (families_of s families)) x

-- x is byte y of what p selects: it is selected, and y offsets before it are
abbrev pub Byte : (p : ℕ → Bool) → (y x : ℕ) → Type 0
Byte p y x = (p x ≡ true) × (count_below p x ≡ y)

-- what the code asks of a selection: the sheet rules; its size, which is the count of one period; and a period so short that byte 2^40 still has a
-- file offset that 64 bits hold
pub record SelectionOk (s : Selection) (families : List Family) : Type 0 where
  pub sound : Sound (families_of s families)
  pub size : s.size ≡ count_below (has (families_of s families)) s.period
  pub some : 1 ≤ s.size
  pub short : s.period ≤ 2 ^ 23

-- THE SELECTION of element e of a layout whose pattern has `size` offsets
unfoldable pub selection_of : Layout → (size e : ℕ) → Selection
selection_of t size e =
    record { from = t.displacement; period = size; levels = 4; first = (element_of t e).first; tops = (element_of t e).tops; size = size_of (tree_of 4 t e) }

-- THE ELEMENTS of such a layout, each the test of its file offsets
unfoldable pub elements_of : Layout → (size : ℕ) → Elements
elements_of t size = tabulated 0 t.elements (λ e. owns t.displacement size (has (tree_of 4 t e)))

-- what the code asks of it: the sheet rules, and that every offset of the pattern is in exactly one element, and none past it in any
pub record PatternOk (t : Layout) (size : ℕ) : Type 0 where
  pub ok : LayoutOk 4 65535 t
  pub least : 1 ≤ size
  pub most : size ≤ 65536
  pub once : (x : ℕ) → x < size → times (selections 4 t) x ≡ 1
  pub past : (x : ℕ) → size ≤ x → times (selections 4 t) x ≡ 0

-- the ranks of x in each of a list of selections, together
unfoldable pub ranks : List (ℕ → Bool) → (x : ℕ) → ℕ
ranks [] x = 0
ranks (p ∷ L) x = count_below p x + ranks L x
