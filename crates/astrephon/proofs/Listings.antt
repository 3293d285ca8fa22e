-- The call `shared_runs`, case by case: two elements are opened for the window, and the runs are listed or there is no room. Assumes nothing.
use mathlib.Core.Path.{◌≡◌, refl, sym, ap, ap₂, ◌∙◌}
use mathlib.Core.Bool.{Bool}
use mathlib.Core.List.{List, [], ◌∷◌}
use Prim.Native.Nat.{ℕ, ◌≤◌, ◌<◌}
use native.Mathlib.Omega.{arith}
use lib.ListN.{length}
use borrow.Author.Tests.{le-leb, lt-leb}
use Rattle.counting.specs.Runs.{Run}
use Rattle.families.specs.declared.Family.{Family}
use Rattle.sheets.specs.Sheet.{read_sheet, Reading}
use Rattle.maps.specs.Selected.{belongs}
use Rattle.maps.specs.declared.Selection.{Selection}
use Rattle.maps.specs.Windows.{WindowOk}
use Rattle.openings.specs.declared.Refusal.TheVariants.{Room}
use Rattle.openings.specs.declared.Pair.{Pair}
use Rattle.openings.specs.Said.{Said, done}
use Rattle.openings.specs.Refusals.{refusal_says}
use Rattle.openings.specs.Offsets.{offsets_of, unless_windows}
use Rattle.openings.specs.Openings.{Passes, Chosen}
use Rattle.openings.proofs.Orders.{left_held, left_written}
use Rattle.openings.proofs.Opens.{Opened, lent}
use Rattle.openings.proofs.PairOpens.{Paired, paired}
use Rattle.runs.specs.Walking.{SideOk}
use Rattle.runs.specs.Listing.{shared_runs, list_with, capacity, list_after}
use Rattle.astrephon.specs.Shares.{runs_of_pair, unless_room, shared_runs_of}
use Rattle.astrephon.proofs.Asks.{side_ok}

-- ---- a list that holds n runs, and one that does not
module _ (n : ℕ) (held : List ℕ) (next : Said) where
  pub room_passed : n ≤ capacity held → next ≡ unless_room n held next
  unfolding unless_room
  room_passed h = rw (le-leb n (capacity held) h) refl

  pub room_refused : capacity held < n → refusal_says (Room n) ≡ unless_room n held next
  unfolding unless_room
  room_refused h = rw (lt-leb n (capacity held) h) refl

-- .. after the engine went over it
module _ (p q : ℕ → Bool) (runs : List Run) (held : List ℕ) where
  all_listed : length runs ≤ capacity held → list_after p q runs held ≡ list_with p q runs held
  unfolding list_after
  all_listed h = rw (le-leb (length runs) (capacity held) h) refl

  none_listed : capacity held < length runs → list_after p q runs held ≡ held
  unfolding list_after
  none_listed h = rw (lt-leb (length runs) (capacity held) h) refl

-- ---- a pair was opened
module _ (xs ys : List ℕ) (i j a b : ℕ) {o : Pair} (O : Passes (unless_windows (read_sheet xs) (read_sheet ys) i j a b) × (Chosen (read_sheet xs) i o.one × Chosen (read_sheet ys) j o.two)) where
  abbrev r1 : Reading
  r1 = read_sheet xs

  abbrev r2 : Reading
  r2 = read_sheet ys

  known : Paired r1 r2 i j a b o
  known = paired xs ys i j a b O.0 O.1.0 O.1.1

  -- the subfiles of both
  module _ (s1 s2 : Selection) (families1 families2 : List Family) (p1 : s1 ≡ o.one.selection) (q1 : families1 ≡ o.one.layout.family) (p2 : s2 ≡ o.two.selection) (q2 : families2 ≡ o.two.layout.family) where
    one_known : Opened r1 i s1 families1
    one_known = lent o.one p1 q1 known.one

    two_known : Opened r2 j s2 families2
    two_known = lent o.two p2 q2 known.two

    -- what the engine asks
    pub shared_asks : SideOk s1 families1 65536 a × (SideOk s2 families2 65536 a × WindowOk a b)
    shared_asks = (
      side_ok one_known a (omega (arith, known.after1, ap (λ (t : Selection). t.from) p1)),
      (side_ok two_known a (omega (arith, known.after2, ap (λ (t : Selection). t.from) p2)), record { ordered = known.forward; near = known.near }),
    )

    abbrev shared : List Run
    shared = runs_of_pair r1 r2 i j a b

    abbrev found : List Run
    found = shared_runs (belongs s1 families1) (belongs s2 families2) a b

    runs_are : found ≡ shared
    runs_are = ap₂ (λ (p q : ℕ → Bool). shared_runs p q a b) one_known.is two_known.is

    -- ---- n runs were found, and `later` is the list afterwards
    module _ (held : List ℕ) (n : ℕ) (count : n ≡ length found) where
      number : n ≡ length shared
      number = count ∙ ap length runs_are

      module _ (later : List ℕ) (list : later ≡ list_after (belongs s1 families1) (belongs s2 families2) found held) where
        left : later ≡ list_after (offsets_of r1 i) (offsets_of r2 j) shared held
        left = list ∙ ap₂ (λ (p q : ℕ → Bool). list_after p q (shared_runs p q a b) held) one_known.is two_known.is

      -- ---- more than the list has room for
      module _ (over : capacity held < n) where
        pub room_says : refusal_says (Room n) ≡ (shared_runs_of r1 r2 i j a b held).says
        unfolding shared_runs_of
        room_says = rw number (room_refused (length shared) held (done (length shared ∷ [])) (omega (arith, number)) ∙ O.0 _)

        pub room_leaves : (later : List ℕ) → later ≡ list_after (belongs s1 families1) (belongs s2 families2) found held
            → later ≡ (shared_runs_of r1 r2 i j a b held).later
        unfolding shared_runs_of
        room_leaves later list = left later list ∙ none_listed _ _ shared held (omega (arith, number)) ∙ sym (left_held held _ room_says)

      -- ---- or no more
      module _ (fits : n ≤ capacity held) where
        pub runs_says : done (n ∷ []) ≡ (shared_runs_of r1 r2 i j a b held).says
        unfolding shared_runs_of
        runs_says = ap (λ (m : ℕ). done (m ∷ [])) number ∙ room_passed (length shared) held _ (omega (arith, number)) ∙ O.0 _

        pub runs_leaves : (later : List ℕ) → later ≡ list_after (belongs s1 families1) (belongs s2 families2) found held
            → later ≡ (shared_runs_of r1 r2 i j a b held).later
        unfolding shared_runs_of
        runs_leaves later list = left later list ∙ all_listed _ _ shared held (omega (arith, number)) ∙ sym (left_written held _ runs_says)
