-- 01's figures on trays: those of layouts A and B, of bytes equal to their offsets, and the moves between them. Assumes nothing.
use mathlib.Core.Path.{◌≡◌, refl, sym, ap, ap₂, ◌∙◌}
use mathlib.Core.List.{List, [], ◌∷◌}
use Prim.Native.Nat.{ℕ, ◌-◌, ◌≤◌}
use native.Mathlib.Omega.{arith}
use lib.ListN.{length}
use Rattle.counting.specs.Count.{count_below}
use Rattle.counting.specs.Periodic.{owns}
use Rattle.counting.specs.Gather.{tabulated}
use Rattle.counting.specs.Elements.{Elements}
use Rattle.counting.specs.Trays.{moved}
use Rattle.families.specs.Forest.{Forest, nil, node, any_below, in_segments, has, end_of, size_of}
use Rattle.families.specs.Decoded.{siblings, forest_at}
use Rattle.families.specs.Flat.{width, total, flat, totals, flats, elements_at, layout_of}
use Rattle.sheets.specs.Sheet.{accepted, read_sheet, Reading}
use Rattle.sheets.specs.Pattern.{sizes}
use Rattle.openings.specs.Said.{done}
use Rattle.openings.specs.Offsets.{LIMIT, offsets_of}
use Rattle.astrephon.specs.Moves.{elements_read, move_call}
use Rattle.astrephon.specs.Sequences.{Takes, Forward}
use Rattle.astrephon.proofs.Accepting.{move_does}
use Rattle.astrephon.proofs.Samples.{only, elements_a, elements_b, sheet_a, sheet_b, readings, no_fault_read}

-- the elements of A and B, by their families
abbrev pub layout_a : Elements
layout_a = owns 0 6 (has (only 0 1)) ∷ owns 0 6 (has (only 2 3)) ∷ owns 0 6 (has (only 4 5)) ∷ []

abbrev pub layout_b : Elements
layout_b = owns 0 4 (has (node 0 0 2 2 nil nil)) ∷ owns 0 4 (has (node 1 1 2 2 nil nil)) ∷ []

accepted_layouts : (elements_read (accepted 0 elements_a) ≡ layout_a) × (elements_read (accepted 0 elements_b) ≡ layout_b)
unfolding accepted tabulated offsets_of width total flat totals flats elements_at layout_of sizes forest_at siblings size_of end_of has in_segments any_below count_below
accepted_layouts = (refl, refl)

pub layouts : (elements_read (read_sheet sheet_a) ≡ layout_a) × (elements_read (read_sheet sheet_b) ≡ layout_b)
layouts = (ap elements_read readings.0 ∙ accepted_layouts.0, ap elements_read readings.1 ∙ accepted_layouts.1)

-- ---- from 0 on both sheets take every window
from_zero : (Fs : List Forest) (a : ℕ) → (accepted 0 Fs).layout.displacement ≤ a
unfolding accepted layout_of
from_zero Fs a = omega arith

takes : (xs : List ℕ) (Fs : List Forest) → read_sheet xs ≡ accepted 0 Fs → (a : ℕ) → Takes xs a
takes xs Fs read a = record { fine = ap (λ (r : Reading). r.number) read ∙ no_fault_read Fs; after = rw read (from_zero Fs a) }

module _ (a b : ℕ) (forward : a ≤ b) (near : b ≤ LIMIT) (t held : List ℕ) (one : length t ≡ b - a) (two : length held ≡ b - a) where
  fits : Forward a b
  fits = record { forward = forward; near = near }

  moves_from : {xs ys : List ℕ} (X : Takes xs a) (Y : Takes ys a) (L M : Elements) → elements_read (read_sheet xs) ≡ L → elements_read (read_sheet ys) ≡ M
      → move_call xs ys a b t held ≡ record { says = done []; later = moved L M a (b - a) t }
  moves_from {xs} {ys} X Y L M one_is two_is =
      let does = move_does fits X Y t held one two in
      let left = sym does.1 ∙ ap₂ (λ (O N : Elements). moved O N a (b - a) t) one_is two_is in
      λ i. record { says = sym does.0 i; later = left i }

  pub a_to_b : move_call sheet_a sheet_b a b t held ≡ record { says = done []; later = moved layout_a layout_b a (b - a) t }
  a_to_b = moves_from (takes sheet_a elements_a readings.0 a) (takes sheet_b elements_b readings.1 a) layout_a layout_b layouts.0 layouts.1

  pub b_to_a : move_call sheet_b sheet_a a b t held ≡ record { says = done []; later = moved layout_b layout_a a (b - a) t }
  b_to_a = moves_from (takes sheet_b elements_b readings.1 a) (takes sheet_a elements_a readings.0 a) layout_b layout_a layouts.1 layouts.0
