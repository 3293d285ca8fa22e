-- The pattern that elements share: its size, and whether they share it out. Assumes nothing: these are definitions.
use Rattle.std.specs.Prelude.{◌≡◌, cond, List, [], ◌∷◌, map, ℕ, ◌+◌, ◌<◌, eqb}
use Rattle.counting.specs.Count.{stretch}
use Rattle.counting.specs.Elements.{times}
use Rattle.families.specs.Forest.{Forest, has, size_of}
use Rattle.sheets.specs.Refusals.{HOLE, OVERLAP}

-- THE PATTERN'S SIZE: the sum of the elements' sizes
unfoldable pub sizes : List Forest → ℕ
sizes [] = 0
sizes (F ∷ Fs) = size_of F + sizes Fs

-- in how many elements x is
abbrev pub in_elements : List Forest → ℕ → ℕ
in_elements Fs x = times (map has Fs) x

-- every offset of the pattern is in exactly one element
abbrev pub Tiled : List Forest → Type 0
Tiled Fs = (x : ℕ) → x < sizes Fs → in_elements Fs x ≡ 1

-- the first offset of the pattern that is not in exactly one element, and the pattern's size where there is none
unfoldable pub first_uneven : List Forest → ℕ
first_uneven Fs = stretch (λ x. eqb (in_elements Fs x) 1) 0 (sizes Fs)

-- the flag of an offset that is in k elements
abbrev pub flag_of : (k : ℕ) → ℕ
flag_of k = cond (eqb k 0) HOLE OVERLAP
