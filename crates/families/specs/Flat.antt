-- The decoded layout of a list of trees. Assumes nothing: these are definitions.
use Rattle.std.specs.Prelude.{List, [], ◌∷◌, ◌++◌, ℕ, suc, ◌+◌, ◌-◌, max, length, replicate}
use Rattle.families.specs.declared.Family.{Family}
use Rattle.families.specs.declared.Element.{Element}
use Rattle.families.specs.declared.Layout.{Layout}
use Rattle.families.specs.Forest.{Forest, nil, node}
use Rattle.families.specs.Decoded.{no_family, no_element}

-- how many siblings, how many families of all levels, how many levels
unfoldable pub width : Forest → ℕ
width nil = 0
width (node l r s n kids rest) = suc (width rest)

unfoldable pub total : Forest → ℕ
total nil = 0
total (node l r s n kids rest) = suc (total kids + total rest)

unfoldable pub depth : Forest → ℕ
depth nil = 0
depth (node l r s n kids rest) = max (suc (depth kids)) (depth rest)

-- the families in sheet order: each, then its children, then its next sibling
unfoldable pub flat : Forest → List Family
flat nil = []
flat (node l r s n kids rest) = record { l = l; r = r; s = s; n = n; children = width kids; span = suc (total kids) } ∷ (flat kids ++ flat rest)

-- a fact of every tree of a list
unfoldable pub All : (Forest → Type 0) → List Forest → Type 0
All P [] = Unit {0}
All P (F ∷ Fs) = P F × All P Fs

-- of all elements: how many families, the families, and the elements, the first family of the first at i
unfoldable pub totals : List Forest → ℕ
totals [] = 0
totals (F ∷ Fs) = total F + totals Fs

unfoldable pub flats : List Forest → List Family
flats [] = []
flats (F ∷ Fs) = flat F ++ flats Fs

unfoldable pub elements_at : (i : ℕ) → List Forest → List Element
elements_at i [] = []
elements_at i (F ∷ Fs) = record { first = i; tops = width F; span = total F } ∷ elements_at (i + total F) Fs

-- THE LAYOUT of a displacement and the elements' trees. Unused room holds nothing
unfoldable pub layout_of : (displacement : ℕ) → List Forest → Layout
layout_of d Fs =
    record { displacement = d; elements = length Fs; families = totals Fs; element = elements_at 0 Fs ++ replicate (16 - length Fs) no_element; family = flats Fs ++ replicate (256 - totals Fs) no_family }
