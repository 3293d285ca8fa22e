-- EVERY REFUSAL is one of 01's table, and A REFUSED CALL WRITES NOTHING: of each call's contract. Assumes nothing.
use mathlib.Core.Path.{◌≡◌, refl, ◌∙◌}
use mathlib.Core.List.{List, [], ◌∷◌}
use mathlib.Core.Bool.{not}
use Prim.Native.Nat.{ℕ, ◌-◌}
use lib.Dec.{leb, ltb}
use lib.ListN.{length}
use Rattle.std.specs.Prelude.{Err}
use Rattle.counting.proofs.Cases.{by_test}
use Rattle.families.specs.declared.FileOffset.{FileOffset}
use Rattle.families.specs.declared.SubfileOffset.{SubfileOffset}
use Rattle.sheets.specs.Refusals.{one_of, ◌when◌}
use Rattle.sheets.specs.Sheet.{read_sheet}
use Rattle.sheets.proofs.Numbered.{listed}
use Rattle.openings.specs.declared.Refusal.{Refusal}
use Rattle.openings.specs.Said.{Said, done}
use Rattle.openings.specs.Refusals.{FAR, FOREIGN, BUFFER, unless_sheets}
use Rattle.openings.specs.Table.{OfTable}
use Rattle.openings.specs.Offsets.{LIMIT, offsets_of, place_of, element_test, pair_tests, offset_tests, interval_tests, window_tests, both_from, unless_element, unless_window, unless_elements}
use Rattle.openings.specs.Buffers.{packed_length, buffer_tests, unless_buffers, tray_tests, unless_trays}
use Rattle.openings.proofs.Orders.{left_held}
use Rattle.openings.proofs.Tabled.{room_of, done_tabled, sheet_tabled, fault_tabled}
use Rattle.runs.specs.Listing.{capacity}
use Rattle.lines.specs.Listing.{listing}
use Rattle.astrephon.specs.Says.{says, fact_values, subfile_value, file_value, interval_values, number_value, no_values}
use Rattle.astrephon.specs.Check.{check_of}
use Rattle.astrephon.specs.Maps.{exact_of, next_of, inverse_of, span_of}
use Rattle.astrephon.specs.Shares.{unless_room, shared_runs_of}
use Rattle.astrephon.specs.Carries.{packed_length_of, gather_of, scatter_of}
use Rattle.astrephon.specs.Moves.{move_of, pair_move_of}
use Rattle.astrephon.specs.Texts.{text_outcome}
use Rattle.astrephon.specs.declared.Facts.{Facts}
use Rattle.astrephon.specs.declared.Interval.{Interval}
use Rattle.astrephon.proofs.Contracts.{Answer, Carried, Made, Check, Exact, Next, Inverse, Span, PackedLen, SharedRuns, Gather, Scatter, MoveTray, MovePair, ListSheet}

-- ---- what several calls check
module _ (next : Said) (h : OfTable next) (xs : List ℕ) where
  element_tabled : (e : ℕ) → OfTable (unless_element (read_sheet xs) e next)
  unfolding listed one_of
  element_tabled e = sheet_tabled _ (fault_tabled next h (element_test (read_sheet xs).layout.elements e ∷ []) refl) xs 1 refl

  sheets_tabled : (ys : List ℕ) → OfTable (unless_sheets (read_sheet xs) (read_sheet ys) next)
  unfolding one_of
  sheets_tabled ys = sheet_tabled _ (sheet_tabled next h ys 2 refl) xs 1 refl

elements_tabled : (next : Said) → OfTable next → (xs ys : List ℕ) (i j : ℕ) → OfTable (unless_elements (read_sheet xs) (read_sheet ys) i j next)
unfolding listed one_of
elements_tabled next h xs ys i j =
    sheets_tabled _ (fault_tabled next h (pair_tests (read_sheet xs).layout.elements i (read_sheet ys).layout.elements j) refl) xs ys

window_tabled : (next : Said) → OfTable next → (xs : List ℕ) (e a b : ℕ) → OfTable (unless_window (read_sheet xs) e a b next)
unfolding listed one_of
window_tabled next h xs e a b = element_tabled _ (fault_tabled next h (window_tests (read_sheet xs).layout.displacement a b) refl) xs e

buffers_tabled : (xs : List ℕ) (e a b file packed : ℕ) → OfTable (unless_buffers (read_sheet xs) e a b file packed (done []))
unfolding listed one_of
buffers_tabled xs e a b file packed =
    window_tabled _ (fault_tabled _ (done_tabled []) (buffer_tests file (b - a) packed (packed_length (read_sheet xs) e a b)) refl) xs e a b

-- ---- EACH CALL: what it says is of the table
module _ (m : Made 1) (xs : List ℕ) where
  pub check_tabled : (r : Answer Facts) → Check m xs r → OfTable (says fact_values r)
  unfolding check_of one_of
  check_tabled r p = rw p (sheet_tabled _ (done_tabled _) xs 1 refl)

  module _ (e : ℕ) where
    pub exact_tabled : (x : ℕ) (r : Answer SubfileOffset) → Exact m xs e x r → OfTable (says subfile_value r)
    unfolding exact_of listed one_of
    exact_tabled x r p =
        rw p (element_tabled _ (fault_tabled _ (fault_tabled _ (done_tabled _) ((FOREIGN when not (offsets_of (read_sheet xs) e x)) ∷ []) refl) (offset_tests (read_sheet xs).layout.displacement x) refl) xs e)

    pub next_tabled : (x : ℕ) (r : Answer SubfileOffset) → Next m xs e x r → OfTable (says subfile_value r)
    unfolding next_of listed one_of
    next_tabled x r p = rw p (element_tabled _ (fault_tabled _ (done_tabled _) (offset_tests (read_sheet xs).layout.displacement x) refl) xs e)

    pub inverse_tabled : (y : ℕ) (r : Answer FileOffset) → Inverse m xs e y r → OfTable (says file_value r)
    unfolding inverse_of listed one_of
    inverse_tabled y r p = rw p (element_tabled _ (fault_tabled _ (done_tabled _) ((FAR when leb LIMIT (place_of (read_sheet xs) e y)) ∷ []) refl) xs e)

    pub span_tabled : (a z : ℕ) (r : Answer Interval) → Span m xs e a z r → OfTable (says interval_values r)
    unfolding span_of listed one_of
    span_tabled a z r p = rw p (element_tabled _ (fault_tabled _ (done_tabled _) (interval_tests (read_sheet xs).layout.displacement a z) refl) xs e)

    pub packed_len_tabled : (a b : ℕ) (r : Answer ℕ) → PackedLen m xs e a b r → OfTable (says number_value r)
    unfolding packed_length_of
    packed_len_tabled a b r p = rw p (window_tabled _ (done_tabled _) xs e a b)

room_tabled : (n : ℕ) (held : List ℕ) (next : Said) → OfTable next → OfTable (unless_room n held next)
unfolding unless_room OfTable
room_tabled n held next h = by_test (leb n (capacity held)) (λ fits. rw fits h) (λ over. rw over (room_of n))

module _ (m : Made 3) where
  pub shared_runs_tabled : (xs ys : List ℕ) (i j a b : ℕ) (held : List ℕ) (r : Answer ℕ) (later : List ℕ) → SharedRuns m xs ys i j a b held r later → OfTable (says number_value r)
  unfolding shared_runs_of listed one_of
  shared_runs_tabled xs ys i j a b held r later p =
      rw p.0 (elements_tabled _ (fault_tabled _ (room_tabled _ held _ (done_tabled _)) (window_tests (both_from (read_sheet xs) (read_sheet ys)) a b) refl) xs ys i j)

  module _ (xs : List ℕ) (e a b : ℕ) (from held : List ℕ) (r : Carried) (later : List ℕ) where
    pub gather_tabled : Gather m xs e a b from held r later → OfTable (says no_values r)
    unfolding gather_of
    gather_tabled p = rw p.0 (buffers_tabled xs e a b (length from) (length held))

    pub scatter_tabled : Scatter m xs e a b from held r later → OfTable (says no_values r)
    unfolding scatter_of
    scatter_tabled p = rw p.0 (buffers_tabled xs e a b (length held) (length from))

module _ (m : Made 4) (xs ys : List ℕ) (a b : ℕ) (t held : List ℕ) (r : Carried) (later : List ℕ) where
  trays_tabled : OfTable (unless_trays (read_sheet xs) (read_sheet ys) a b (length t) (length held) (done []))
  unfolding listed one_of
  trays_tabled = fault_tabled _ (done_tabled []) (tray_tests (both_from (read_sheet xs) (read_sheet ys)) a b (length t) (length held)) refl

  pub move_tray_tabled : MoveTray m xs ys a b t held r later → OfTable (says no_values r)
  unfolding move_of
  move_tray_tabled p = rw p.0 (sheets_tabled _ trays_tabled xs ys)

  pub move_pair_tabled : (i j : ℕ) → MovePair m xs ys i j a b t held r later → OfTable (says no_values r)
  unfolding pair_move_of
  move_pair_tabled i j p = rw p.0 (elements_tabled _ trays_tabled xs ys i j)

pub list_sheet_tabled : (m : Made 2) (xs held : List ℕ) (r : Answer ℕ) (later : List ℕ) → ListSheet m xs held r later → OfTable (says number_value r)
unfolding text_outcome listed one_of
list_sheet_tabled m xs held r later p = rw p.0 (fault_tabled _ (done_tabled _) ((BUFFER when ltb (length held) (length (listing (read_sheet xs)))) ∷ []) refl)

-- ---- EACH CALL THAT WRITES: refused, it leaves the buffer as it was
module _ (f : Refusal) (later : List ℕ) where
  module _ (m : Made 3) where
    pub shared_runs_stays : (xs ys : List ℕ) (i j a b : ℕ) (held : List ℕ) → SharedRuns m xs ys i j a b held (Err f) later → later ≡ held
    unfolding shared_runs_of
    shared_runs_stays xs ys i j a b held p = p.1 ∙ left_held held _ p.0

    module _ (xs : List ℕ) (e a b : ℕ) (from held : List ℕ) where
      pub gather_stays : Gather m xs e a b from held (Err f) later → later ≡ held
      unfolding gather_of
      gather_stays p = p.1 ∙ left_held held _ p.0

      pub scatter_stays : Scatter m xs e a b from held (Err f) later → later ≡ held
      unfolding scatter_of
      scatter_stays p = p.1 ∙ left_held held _ p.0

  module _ (m : Made 4) (xs ys : List ℕ) (a b : ℕ) (t held : List ℕ) where
    pub move_tray_stays : MoveTray m xs ys a b t held (Err f) later → later ≡ held
    unfolding move_of
    move_tray_stays p = p.1 ∙ left_held held _ p.0

    pub move_pair_stays : (i j : ℕ) → MovePair m xs ys i j a b t held (Err f) later → later ≡ held
    unfolding pair_move_of
    move_pair_stays i j p = p.1 ∙ left_held held _ p.0

  pub list_sheet_stays : (m : Made 2) (xs held : List ℕ) → ListSheet m xs held (Err f) later → later ≡ held
  unfolding text_outcome
  list_sheet_stays m xs held p = p.1 ∙ left_held held _ p.0
