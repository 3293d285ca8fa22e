-- The sheet of a layout, and what a layout must meet. Assumes nothing: these are definitions.
use Rattle.std.specs.Prelude.{◌≡◌, List, [], ◌∷◌, ◌++◌, ℕ, ◌^◌, ◌≤◌, ◌<◌, length}
use Rattle.families.specs.Forest.{Forest, nil, node, WF}
use Rattle.families.specs.Flat.{width, depth, All, totals}
use Rattle.sheets.specs.Bytes.{two, four}
use Rattle.sheets.specs.Pattern.{Tiled}

-- each record: its length, its kind and its body
unfoldable pub family_bytes : (l r s n children : ℕ) → List ℕ
family_bytes l r s n children = two 20 ++ (two 3 ++ (four l ++ (four r ++ (four s ++ (four n ++ two children)))))

-- a family's children follow it at once
unfoldable pub forest_bytes : Forest → List ℕ
forest_bytes nil = []
forest_bytes (node l r s n kids rest) = family_bytes l r s n (width kids) ++ (forest_bytes kids ++ forest_bytes rest)

unfoldable pub element_bytes : Forest → List ℕ
element_bytes F = two 4 ++ (two 2 ++ (two (width F) ++ forest_bytes F))

unfoldable pub elements_bytes : List Forest → List ℕ
elements_bytes [] = []
elements_bytes (F ∷ Fs) = element_bytes F ++ elements_bytes Fs

-- THE SHEET of a displacement and the elements' trees
unfoldable pub encode : (displacement : ℕ) → List Forest → List ℕ
encode d Fs = two 8 ++ (two 1 ++ (four d ++ (two (length Fs) ++ elements_bytes Fs)))

-- THE SHEET RULES: of each element, and of all
pub record ElementRules (F : Forest) : Type 0 where
  pub some : 1 ≤ width F
  pub levels : depth F ≤ 4
  pub families : WF 0 65535 F

pub record Rules (displacement : ℕ) (Fs : List Forest) : Type 0 where
  pub short : displacement < 2 ^ 32
  pub least : 1 ≤ length Fs
  pub most : length Fs ≤ 16
  pub room : totals Fs ≤ 256
  pub each : All ElementRules Fs

-- A GOOD SHEET: the sheet of a displacement and elements that meet the rules and share the pattern out
pub record Good (xs : List ℕ) : Type 0 where
  pub displacement : ℕ
  pub elements : List Forest
  pub rules : Rules displacement elements
  pub tiled : Tiled elements
  pub is : xs ≡ encode displacement elements
