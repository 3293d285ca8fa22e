-- Layout C of 01, the panel: its sheet is accepted, and exact mapping of 9,864. By the laws, since it has too many offsets to compute. Assumes nothing.
use mathlib.Core.Path.{◌≡◌, refl, sym, ap₂}
use mathlib.Core.List.{List, [], ◌∷◌}
use Prim.Native.Nat.{ℕ, ◌≤◌}
use native.Mathlib.Omega.{arith}
use Rattle.counting.specs.Periodic.{owns}
use Rattle.families.specs.Forest.{Forest, has}
use Rattle.families.specs.Decoded.{siblings, forest_at, tree_of}
use Rattle.families.specs.Flat.{width, depth, total, flat, All, totals, flats, elements_at, layout_of}
use Rattle.families.proofs.Figures.{controller, controllers, controller_ok, controller_size, panel_once, panel_rank, panel_has}
use Rattle.sheets.specs.Sheet.{accepted, read_sheet}
use Rattle.sheets.specs.Pattern.{sizes, Tiled}
use Rattle.sheets.specs.Encode.{ElementRules, Rules, encode}
use Rattle.sheets.proofs.Exactly.{good_read}
use Rattle.maps.specs.Selected.{Byte}
use Rattle.openings.specs.Said.{done}
use Rattle.openings.specs.Offsets.{offsets_of}
use Rattle.openings.proofs.Opens.{ElementFine}
use Rattle.astrephon.specs.Maps.{exact_call}
use Rattle.astrephon.proofs.Mappings.{exact_byte}

unfoldable pub sheet_c : List ℕ
sheet_c = encode 0 controllers

element_rules : (c : ℕ) → c ≤ 3 → ElementRules (controller c)
unfolding controller width depth
element_rules c h = record { some = omega arith; levels = omega arith; families = controller_ok c h }

panel_rules : Rules 0 controllers
unfolding controllers controller totals total All
panel_rules = record {
  short = omega arith;
  least = omega arith;
  most = omega arith;
  room = omega arith;
  each = (element_rules 0 (omega arith), (element_rules 1 (omega arith), (element_rules 2 (omega arith), (element_rules 3 (omega arith), tt))));
}

panel_size : sizes controllers ≡ 1920
unfolding controllers sizes
panel_size = omega (arith, controller_size 0 (omega arith), controller_size 1 (omega arith), controller_size 2 (omega arith), controller_size 3 (omega arith))

panel_tiled : Tiled controllers
panel_tiled x h = panel_once x (omega (arith, panel_size))

panel_read : read_sheet sheet_c ≡ accepted 0 controllers
unfolding sheet_c
panel_read = good_read 0 controllers panel_rules panel_tiled

-- ---- element 1
panel_tree : tree_of 4 (accepted 0 controllers).layout 1 ≡ controller 1
unfolding accepted layout_of controllers controller flats flat totals total width elements_at forest_at siblings
panel_tree = refl

panel_offsets : offsets_of (accepted 0 controllers) 1 ≡ owns 0 1920 (has (controller 1))
unfolding offsets_of accepted layout_of
panel_offsets = ap₂ (λ (n : ℕ) (F : Forest). owns 0 n (has F)) panel_size panel_tree

panel_byte : Byte (offsets_of (accepted 0 controllers) 1) 2464 9864
panel_byte = rw panel_offsets (panel_has, panel_rank)

panel_element : ElementFine (accepted 0 controllers) 1
unfolding accepted layout_of controllers
panel_element = record { fine = refl; there = omega arith }

pub panel_exact : exact_call sheet_c 1 9864 ≡ done (2464 ∷ [])
panel_exact = rw panel_read (sym (exact_byte (accepted 0 controllers) 1 panel_element 9864 2464 panel_byte (omega arith)))
