-- The loop of `fill_parts`: the chosen parts below j are filled, and the rest of the tray is as it was. Assumes nothing.
use mathlib.Core.Path.{◌≡◌, sym, ap, ◌∙◌}
use mathlib.Core.Bool.{Bool}
use mathlib.Core.List.{List, ◌++◌}
use Rattle.std.specs.Prelude.{Option}
use Prim.Native.Nat.{ℕ, ◌+◌, ◌-◌, ◌≤◌, ◌<◌}
use native.Mathlib.Nat.{add-sub_cancel_left}
use native.Mathlib.Numerals.{add-one}
use native.Mathlib.Omega.{arith}
use lib.ListN.{length, take, drop, length-drop}
use lib.Seq.{length-take-le}
use Rattle.counting.specs.Count.{count_in}
use Rattle.counting.specs.Elements.{Elements, element, Partition}
use Rattle.counting.specs.Trays.{counts, in_tray}
use Rattle.counting.proofs.TrayParts.{part_within}
use Rattle.families.specs.declared.Family.{Family}
use Rattle.families.specs.declared.Layout.{Layout}
use Rattle.maps.specs.declared.Selection.{Selection}
use Rattle.maps.specs.declared.window.Window.{Window}
use Rattle.maps.specs.Selected.{belongs, selection_of, elements_of, PatternOk}
use Rattle.parts.specs.declared.shares.Share.{Share}
use Rattle.moves.specs.declared.ahead.Stride.{Stride}
use Rattle.moves.specs.Strides.{Strides}
use Rattle.moves.specs.Walks.{Carries}
use Rattle.parts.specs.Pieces.{bytes_of, share_at, ShareOf, takes, renewed}
use Rattle.trays.specs.Parts.{moved_where, Prepared, TraysOk}
use Rattle.trays.proofs.Layouts.{elements_length, elements_share, selection_belongs, selection_from}
use Rattle.trays.proofs.Choices.{length_where, where_none, where_more}

-- ---- the loop
pub record Parted (L M : Elements) (a n : ℕ) (t u₀ : List ℕ) (only : Option ℕ) (first last : ℕ) (u : List ℕ) (j : ℕ) : Type 0 where
  pub from : first ≤ j
  pub upto : j ≤ last
  pub is : u ≡ moved_where L M a n t (record { only = only; first = first; last = j }) u₀

module _ {L M : Elements} {a n : ℕ} (once : Partition M a n) {t u₀ : List ℕ} {only : Option ℕ} {first last : ℕ} where
  pub parted_none : length u₀ ≡ n → first ≤ last → Parted L M a n t u₀ only first last u₀ first
  parted_none long h = record { from = omega arith; upto = h; is = sym (where_none L M a n once t u₀ long only first) }

  module _ {u : List ℕ} {j : ℕ} (P : Parted L M a n t u₀ only first last u j) where
    pub parted_long : length u ≡ n
    parted_long = ap length P.is ∙ length_where L M a n once t u₀ _

    -- element j's part, which starts at `at` and has k places
    module _ (h : j < length M) (at k : ℕ) (starts : at ≡ counts (take j M) a n) (long : k ≡ count_in (element M j) a n) where
      parted_part : length (take k (drop at u)) ≡ k
      parted_part = length-take-le k (drop at u) (omega (arith, length-drop at u, parted_long, part_within M a n j h once))

      -- ONE PART MORE
      parted_next : j < last → (q : ℕ → Bool) → q ≡ element M j → (part : List ℕ)
          → part ≡ renewed q a n (takes L only) (in_tray L a n t) (take k (drop at u))
          → Parted L M a n t u₀ only first last (take at u ++ (part ++ drop k (drop at u))) (j + 1)
      parted_next less q own part new = record {
        from = omega (arith, P.from);
        upto = omega arith;
        is = rw (new, own, starts, long, P.is, add-one j) (where_more L M a n once t u₀ only first j P.from h);
      }

-- ---- a round of the loop, for the parts of a layout
module _ {t : Layout} {size : ℕ} {w : Window} {strides : List Stride} {shares : List Share} (ok : PatternOk t size) (T : Prepared t size w strides shares) where
  abbrev M : Elements
  M = elements_of t size

  abbrev a : ℕ
  a = w.start.0

  abbrev n : ℕ
  n = bytes_of w

  pub targets_once : Partition M a n
  targets_once = elements_share t size ok a n T.after

  module _ {L : Elements} {v u₀ : List ℕ} {only : Option ℕ} {first last : ℕ} {u : List ℕ} {j : ℕ} (P : Parted L M a n v u₀ only first last u j)
      (less : j < last) (most : last ≤ t.elements) where
    pub parting_element : j < t.elements
    parting_element = omega arith

    there : j < length M
    there = omega (arith, elements_length t size)

    pub parting_held : j < length shares
    parting_held = omega (arith, T.shared.held, there)

    -- the part by its share
    module _ (share : Share) (read : share ≡ share_at shares j) where
      abbrev at : ℕ
      at = share.start.0

      abbrev k : ℕ
      k = at + share.count - at

      own : ShareOf M t.displacement size a n j share
      own = rw read (T.shared.each j there)

      long : k ≡ count_in (element M j) a n
      long = add-sub_cancel_left at share.count ∙ own.count

      pub parting_fits : at + share.count ≤ n
      parting_fits = omega (arith, own.start, own.count, part_within M a n j there targets_once)

      module _ (s : Selection) (chosen : s ≡ selection_of t size j) (lent : List Family) (laid : lent ≡ t.family) where
        selects : belongs s lent ≡ element M j
        selects = selection_belongs t size lent laid j parting_element s chosen

        -- what `fill_part` asks
        pub parting_asks : {one two : ℕ} → TraysOk w one two → Carries s lent w one (length (take k (drop at u))) × Strides s (belongs s lent) strides
        parting_asks O = (
          record {
            after = omega (arith, selection_from t size lent laid j parting_element s chosen, T.after);
            some = O.some;
            buffers = record { file = O.long.first; packed = rw selects (parted_part targets_once P there at k own.start long ∙ long) };
          },
          rw (chosen, laid) (T.ahead j parting_element),
        )

        pub parting_next : (part : List ℕ) → part ≡ renewed (belongs s lent) a n (takes L only) (in_tray L a n v) (take k (drop at u))
            → Parted L M a n v u₀ only first last (take at u ++ (part ++ drop k (drop at u))) (j + 1)
        parting_next part new = parted_next targets_once P there at k own.start long less (belongs s lent) selects part new
