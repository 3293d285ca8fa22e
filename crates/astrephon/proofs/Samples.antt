-- The layouts of 01's figures: each sheet is read once, and what its first element has is said by its families. Assumes nothing.
use mathlib.Core.Path.{◌≡◌, refl, sym, ap, ap₂, ◌∙◌}
use mathlib.Core.Bool.{Bool}
use mathlib.Core.List.{List, [], ◌∷◌}
use Prim.Native.Nat.{ℕ, ◌≤◌}
use native.Mathlib.Omega.{arith}
use lib.ListN.{length}
use Rattle.counting.specs.Count.{count_below, stretch}
use Rattle.counting.specs.Periodic.{owns}
use Rattle.counting.specs.Elements.{times}
use Rattle.families.specs.Forest.{Forest, nil, node, any_below, in_segments, has, end_of, size_of}
use Rattle.families.specs.Decoded.{siblings, forest_at, tree_of}
use Rattle.families.specs.Flat.{width, total, flat, totals, flats, elements_at, layout_of}
use Rattle.families.proofs.Figures.{pairs, singles}
use Rattle.sheets.specs.Refusals.{first_fault, unless, and_then}
use Rattle.sheets.specs.Bytes.{le16, le32, two, four}
use Rattle.sheets.specs.Records.{length_of, head_tests, family_record, bad_segment, family_tests, header_tests, element_tests, body_tests, fault}
use Rattle.sheets.specs.Sheet.{siblings_from, forest_from, elements_from, elements_of, accepted, judged, answer, read_sheet, Reading}
use Rattle.sheets.specs.Pattern.{sizes, first_uneven}
use Rattle.sheets.specs.Encode.{family_bytes, forest_bytes, element_bytes, elements_bytes, encode}
use Rattle.openings.specs.Said.{Said, done, Outcome, writing}
use Rattle.openings.specs.Offsets.{LIMIT, offsets_of, window_tests, both_from, unless_windows}
use Rattle.openings.proofs.Orders.{fault_passed}
use Rattle.openings.proofs.Opens.{ElementFine}
use Rattle.openings.proofs.PairOpens.{elements_on}
use Rattle.openings.proofs.Faults.{range_fine}
use Rattle.runs.specs.Listing.{shared_runs, list_with}
use Rattle.astrephon.specs.Shares.{unless_room, shared_runs_of, shared_runs_call}

-- one family of one segment without children, as the figures have them
abbrev pub only : (l r : ℕ) → Forest
only l r = node l r 0 1 nil nil

-- the elements of layouts A and B, and of 000's intersection example: (0,7,16,2,{(0,1,4,2)}) and (0,3,8,4,{(0,0,2,2)}), each with an element that has the
-- rest of its pattern of 32
abbrev pub elements_a : List Forest
elements_a = only 0 1 ∷ only 2 3 ∷ only 4 5 ∷ []

abbrev pub elements_b : List Forest
elements_b = node 0 0 2 2 nil nil ∷ node 1 1 2 2 nil nil ∷ []

abbrev elements_pairs : List Forest
elements_pairs = pairs ∷ node 0 15 16 2 (node 2 3 0 1 nil (only 6 15)) nil ∷ []

abbrev elements_singles : List Forest
elements_singles = singles ∷ node 0 7 8 4 (node 1 1 0 1 nil (only 3 7)) nil ∷ []

unfoldable pub sheet_a : List ℕ
sheet_a = encode 0 elements_a

unfoldable pub sheet_b : List ℕ
sheet_b = encode 0 elements_b

unfoldable pub sheet_pairs : List ℕ
sheet_pairs = encode 0 elements_pairs

unfoldable pub sheet_singles : List ℕ
sheet_singles = encode 0 elements_singles

pub readings : (read_sheet sheet_a ≡ accepted 0 elements_a) × (read_sheet sheet_b ≡ accepted 0 elements_b)
    × (read_sheet sheet_pairs ≡ accepted 0 elements_pairs) × (read_sheet sheet_singles ≡ accepted 0 elements_singles)
unfolding sheet_a sheet_b sheet_pairs sheet_singles pairs singles encode elements_bytes element_bytes forest_bytes family_bytes two four width total flat totals flats
    elements_at layout_of read_sheet answer judged accepted first_uneven sizes elements_of elements_from forest_from siblings_from fault body_tests element_tests
    header_tests family_tests bad_segment family_record head_tests length_of le16 le32 and_then unless first_fault times size_of end_of has in_segments any_below
    count_below stretch
readings = (refl, refl, refl, refl)

-- ---- what the first element has: its families, from 0 on, again every size of the pattern
first_offsets : (F : Forest) (Fs : List Forest) (P : ℕ) → sizes (F ∷ Fs) ≡ P → tree_of 4 (layout_of 0 (F ∷ Fs)) 0 ≡ F → offsets_of (accepted 0 (F ∷ Fs)) 0 ≡ owns 0 P (has F)
unfolding offsets_of accepted layout_of
first_offsets F Fs P size tree = ap₂ (λ (n : ℕ) (G : Forest). owns 0 n (has G)) size tree

offsets : (offsets_of (accepted 0 elements_a) 0 ≡ owns 0 6 (has (only 0 1))) × (offsets_of (accepted 0 elements_b) 0 ≡ owns 0 4 (has (node 0 0 2 2 nil nil)))
    × (offsets_of (accepted 0 elements_pairs) 0 ≡ owns 0 32 (has pairs)) × (offsets_of (accepted 0 elements_singles) 0 ≡ owns 0 32 (has singles))
unfolding pairs singles width total flat totals flats elements_at layout_of sizes forest_at siblings size_of end_of has in_segments any_below count_below
offsets = (first_offsets _ _ 6 refl refl, first_offsets _ _ 4 refl refl, first_offsets _ _ 32 refl refl, first_offsets _ _ 32 refl refl)

-- ---- shared runs of two such layouts, by those of their first elements
pub no_fault_read : (Fs : List Forest) → (accepted 0 Fs).number ≡ 0
unfolding accepted
no_fault_read Fs = refl

first_fine : (F : Forest) (Fs : List Forest) → ElementFine (accepted 0 (F ∷ Fs)) 0
unfolding accepted layout_of
first_fine F Fs = record { fine = no_fault_read (F ∷ Fs); there = omega arith }

from_zero : (Fs Gs : List Forest) (b : ℕ) → b ≤ LIMIT → 0 ≡ first_fault (window_tests (both_from (accepted 0 Fs) (accepted 0 Gs)) 0 b)
unfolding accepted layout_of
from_zero Fs Gs b near = range_fine LIMIT 0 0 b (omega arith) (omega arith) near

windows_on : (F G : Forest) (Fs Gs : List Forest) (b : ℕ) → b ≤ LIMIT → (next : Said) → next ≡ unless_windows (accepted 0 (F ∷ Fs)) (accepted 0 (G ∷ Gs)) 0 0 0 b next
windows_on F G Fs Gs b near next =
    fault_passed next _ 0 (from_zero (F ∷ Fs) (G ∷ Gs) b near) refl
    ∙ elements_on (accepted 0 (F ∷ Fs)) (accepted 0 (G ∷ Gs)) 0 0 (first_fine F Fs) (first_fine G Gs) _

-- what the call does once its window is checked, of any two tests
unfoldable pub listed_of : (p q : ℕ → Bool) → (b : ℕ) → (held : List ℕ) → Outcome
listed_of p q b held =
    let runs = shared_runs p q 0 b in
    writing (unless_room (length runs) held (done (length runs ∷ []))) held (list_with p q runs held)

listed_first : (F G : Forest) (Fs Gs : List Forest) (b : ℕ) → b ≤ LIMIT → (held : List ℕ)
    → shared_runs_of (accepted 0 (F ∷ Fs)) (accepted 0 (G ∷ Gs)) 0 0 0 b held ≡ listed_of (offsets_of (accepted 0 (F ∷ Fs)) 0) (offsets_of (accepted 0 (G ∷ Gs)) 0) b held
unfolding shared_runs_of listed_of
listed_first F G Fs Gs b near held =
    let p = offsets_of (accepted 0 (F ∷ Fs)) 0 in
    let q = offsets_of (accepted 0 (G ∷ Gs)) 0 in
    let runs = shared_runs p q 0 b in
    ap (λ (s : Said). writing s held (list_with p q runs held)) (sym (windows_on F G Fs Gs b near (unless_room (length runs) held (done (length runs ∷ [])))))

shared_first : (xs ys : List ℕ) (F G : Forest) (Fs Gs : List Forest) (p q : ℕ → Bool) → read_sheet xs ≡ accepted 0 (F ∷ Fs) → read_sheet ys ≡ accepted 0 (G ∷ Gs)
    → offsets_of (accepted 0 (F ∷ Fs)) 0 ≡ p → offsets_of (accepted 0 (G ∷ Gs)) 0 ≡ q → (b : ℕ) → b ≤ LIMIT → (held : List ℕ)
    → shared_runs_call xs ys 0 0 0 b held ≡ listed_of p q b held
shared_first xs ys F G Fs Gs p q r s u v b near held =
    ap₂ (λ (one other : Reading). shared_runs_of one other 0 0 0 b held) r s ∙ listed_first F G Fs Gs b near held ∙ ap₂ (λ (o e : ℕ → Bool). listed_of o e b held) u v

pub shared_a_b : (held : List ℕ) → shared_runs_call sheet_a sheet_b 0 0 0 12 held ≡ listed_of (owns 0 6 (has (only 0 1))) (owns 0 4 (has (node 0 0 2 2 nil nil))) 12 held
shared_a_b = shared_first sheet_a sheet_b _ _ _ _ _ _ readings.0 readings.1 offsets.0 offsets.1 12 (omega arith)

pub shared_pairs_singles : (held : List ℕ) → shared_runs_call sheet_pairs sheet_singles 0 0 0 32 held ≡ listed_of (owns 0 32 (has pairs)) (owns 0 32 (has singles)) 32 held
shared_pairs_singles = shared_first sheet_pairs sheet_singles _ _ _ _ _ _ readings.2 readings.3 offsets.2 offsets.3 32 (omega arith)
