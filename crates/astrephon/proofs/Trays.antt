-- THE TRAY OF AN ACCEPTED SHEET is its window in another order: every place holds exactly one offset's byte. Assumes nothing.
use mathlib.Core.Bool.{Bool, false, ◌&&◌}
use mathlib.Core.Path.{◌≡◌, sym, ap, ap₂, ◌∙◌}
use mathlib.Core.List.{List, map}
use Prim.Native.Nat.{ℕ, suc, ◌+◌, ◌-◌, ◌≤◌, ◌<◌}
use native.Mathlib.Omega.{arith}
use lib.ListN.{length, get_or-eq_default}
use Rattle.counting.specs.Periodic.{owns}
use Rattle.counting.specs.Elements.{Elements, element, times, Partition}
use Rattle.counting.specs.Trays.{tray, tray_place, in_tray}
use Rattle.counting.proofs.Gathers.{length_tabulated, tabulated_map}
use Rattle.counting.proofs.Elements.{element_tabulated, elements_apart}
use Rattle.counting.proofs.Trays.{tray_length, tray_at, place_within, place_injective, place_surjective}
use Rattle.families.specs.Forest.{has}
use Rattle.families.specs.Decoded.{tree_of, selections}
use Rattle.sheets.specs.Sheet.{read_sheet, Reading}
use Rattle.sheets.proofs.Accepted.{accepted_law}
use Rattle.openings.specs.Offsets.{offsets_of}
use Rattle.astrephon.specs.Moves.{elements_read}
use Rattle.astrephon.specs.Sequences.{Takes}

pub elements_map : (r : Reading) → map (owns r.layout.displacement r.size) (selections 4 r.layout) ≡ elements_read r
unfolding offsets_of selections
elements_map r = tabulated_map (owns r.layout.displacement r.size) 0 r.layout.elements (λ e. has (tree_of 4 r.layout e))

pub elements_length : (r : Reading) → length (elements_read r) ≡ r.layout.elements
elements_length r = length_tabulated 0 r.layout.elements (offsets_of r)

-- past the last element nothing passes
pub past_none : (xs : List ℕ) (i : ℕ) → (read_sheet xs).layout.elements ≤ i → (x : ℕ) → element (elements_read (read_sheet xs)) i x ≡ false
past_none xs i h x = ap (λ (p : ℕ → Bool). p x) (get_or-eq_default (elements_read (read_sheet xs)) (λ _. false) {n = i} (omega (arith, elements_length (read_sheet xs))))

module _ {xs : List ℕ} {a : ℕ} (X : Takes xs a) where
  abbrev L : Elements
  L = elements_read (read_sheet xs)

  -- the elements share every window out that starts in the sheet
  pub shared_out : (n : ℕ) → Partition L a n
  shared_out n x h k =
      ap (λ (M : Elements). times M x) (sym (elements_map (read_sheet xs))) ∙ (accepted_law xs X.fine).file x (omega (arith, X.after))

  -- two different elements share none of its offsets
  pub offsets_apart : (i j : ℕ) → i < (read_sheet xs).layout.elements → j < (read_sheet xs).layout.elements → (i ≡ j → ⊥)
      → (x : ℕ) → a ≤ x → (offsets_of (read_sheet xs) i x && offsets_of (read_sheet xs) j x) ≡ false
  offsets_apart i j one two differ x h =
      let is : (e : ℕ) → e < (read_sheet xs).layout.elements → element L e x ≡ offsets_of (read_sheet xs) e x =
      λ e there. ap (λ (p : ℕ → Bool). p x) (element_tabulated (offsets_of (read_sheet xs)) (read_sheet xs).layout.elements e there) in
      ap₂ (λ (s t : Bool). s && t) (sym (is i one)) (sym (is j two)) ∙ elements_apart L x i j (shared_out (suc (x - a)) x h (omega arith)) differ

  module _ (n : ℕ) where
    -- the byte of an offset stands at its place, and the tray is as long as the window
    pub tray_long : (f : ℕ → ℕ) → length (tray L a n f) ≡ n
    tray_long f = tray_length L a n (shared_out n) f

    pub tray_holds : (f : ℕ → ℕ) (x : ℕ) → a ≤ x → x < a + n → (tray_place L a n x < n) × (in_tray L a n (tray L a n f) x ≡ f x)
    tray_holds f x h k = (place_within L a n (shared_out n) x h k, tray_at L a n (shared_out n) f x h k)

    -- EVERY PLACE holds the byte of one offset, and of no other
    pub tray_permutes : (y : ℕ) → y < n
        → (x : ℕ) × (a ≤ x) × (x < a + n) × (tray_place L a n x ≡ y) × ((z : ℕ) → a ≤ z → z < a + n → tray_place L a n z ≡ y → z ≡ x)
    tray_permutes y h =
        let S = place_surjective L a n (shared_out n) y h in
        (S.0, S.1, S.2, S.3, λ z u v e. place_injective L a n (shared_out n) z S.0 u v S.1 S.2 (e ∙ sym S.3))
