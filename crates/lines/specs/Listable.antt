-- What the code asks of a layout that it lists. Assumes nothing: these are definitions.
use Rattle.std.specs.Prelude.{◌≡◌, ℕ, ◌<◌}
use Rattle.families.specs.declared.Layout.{Layout}
use Rattle.families.specs.Decoded.{element_of, tree_of, LayoutOk}
use Rattle.families.specs.Flat.{total}

-- the sheet rules, and that each element's span counts the families of all levels
pub record Listable (t : Layout) : Type 0 where
  pub ok : LayoutOk 4 65535 t
  pub spans : (e : ℕ) → e < t.elements → (element_of t e).span ≡ total (tree_of 4 t e)
