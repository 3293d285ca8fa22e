-- The loop of `share_out`: the shares of the elements done stand in the table. Assumes nothing.
use mathlib.Core.Path.{◌≡◌, refl, ap, ◌∙◌}
use mathlib.Core.List.{List}
use mathlib.Core.Logic.{⊎_elim}
use Prim.Native.Nat.{ℕ, ◌+◌, ◌-◌, ◌^◌, ◌≤◌, ◌<◌}
use native.Mathlib.Numerals.{add-one}
use native.Mathlib.Omega.{arith}
use lib.ListN.{length, take, set, length-set}
use lib.Seq.{get_or-set_same, get_or-set_other}
use Rattle.counting.specs.Count.{count_below}
use Rattle.counting.specs.Elements.{Elements, Partition}
use Rattle.counting.specs.Trays.{counts}
use Rattle.counting.proofs.Cases.{same_or_not}
use Rattle.counting.proofs.Counts.{count_window}
use Rattle.counting.proofs.TrayParts.{part_end, part_within}
use Rattle.families.specs.declared.Family.{Family}
use Rattle.families.specs.declared.Layout.{Layout}
use Rattle.families.specs.declared.TrayPlace.{TrayPlace}
use Rattle.maps.specs.declared.Selection.{Selection}
use Rattle.maps.specs.declared.window.Window.{Window}
use Rattle.maps.specs.Selected.{belongs, selection_of, elements_of, PatternOk}
use Rattle.parts.specs.declared.shares.Share.{Share}
use Rattle.parts.specs.Pieces.{bytes_of, share_at, ShareOf, SharesOf}
use Rattle.trays.proofs.Layouts.{elements_length, elements_share, selection_belongs, selection_size}

-- ---- the loop
pub record Allotted (L : Elements) (from period a n : ℕ) (shares₀ shares : List Share) (e at : ℕ) : Type 0 where
  pub upto : e ≤ length L
  pub same : length shares ≡ length shares₀
  pub held : length L ≤ length shares
  pub here : at ≡ counts (take e L) a n
  pub each : (i : ℕ) → i < e → ShareOf L from period a n i (share_at shares i)

pub allotted_none : (L : Elements) (from period a n : ℕ) (shares : List Share) → length L ≤ length shares → Allotted L from period a n shares shares 0 0
unfolding counts
allotted_none L from period a n shares held = record { upto = omega arith; same = refl; held = held; here = refl; each = λ i h. absurd (omega arith) }

module _ {L : Elements} {from period a n : ℕ} {shares₀ shares : List Share} {e at : ℕ} (A : Allotted L from period a n shares₀ shares e at) where
  pub allotted_all : length L ≤ e → SharesOf L from period a n shares
  allotted_all h = record { held = A.held; each = λ i l. A.each i (omega arith) }

  -- where the part that is done ends
  allotted_fits : Partition L a n → e < length L → {share : Share} → ShareOf L from period a n e share → at + share.count ≤ n
  allotted_fits once h S = omega (arith, A.here, S.count, part_within L a n e h once)

  -- ONE SHARE MORE
  allotted_next : e < length L → (share : Share) → ShareOf L from period a n e share
      → Allotted L from period a n shares₀ (set shares e share) (e + 1) (at + share.count)
  allotted_next h share S =
      let long : length (set shares e share) ≡ length shares = length-set shares e share in
      record {
        upto = omega arith;
        same = long ∙ A.same;
        held = omega (arith, long, A.held);
        here = rw (add-one e) (omega (arith, A.here, S.count, part_end L a n e h));
        each = λ i l. ⊎_elim
            (λ z. rw (z, get_or-set_same shares e share _ (let held : e < length shares = omega (arith, A.held) in held)) S)
            (λ d. rw (get_or-set_other shares e i share _ d) (A.each i (omega arith)))
            (same_or_not i e);
      }

-- ---- a round of the loop, for the elements of a layout
module _ {t : Layout} {size : ℕ} (P : PatternOk t size) (w : Window) {shares₀ shares : List Share} {e at : ℕ}
    (A : Allotted (elements_of t size) t.displacement size w.start.0 (bytes_of w) shares₀ shares e at) (h : e < t.elements) where
  abbrev L : Elements
  L = elements_of t size

  abbrev a : ℕ
  a = w.start.0

  abbrev b : ℕ
  b = w.end.0

  there : e < length L
  there = omega (arith, elements_length t size)

  -- what `share_of` answers for s, the selection of element e
  module _ {families : List Family} (laid : families ≡ t.family) (s : Selection) (chosen : s ≡ selection_of t size e) (share : Share)
      (answer : (share.start ≡ record { 0 = at }) × ((share.count ≡ count_below (belongs s families) b - count_below (belongs s families) a)
      × ((share.before.0 ≡ count_below (belongs s families) a) × (share.size ≡ s.size)))) where
    own : ShareOf L t.displacement size a (bytes_of w) e share
    own =
        let p = belongs s families in
        let selects = selection_belongs t size families laid e h s chosen in
        record {
          start = ap (λ (r : TrayPlace). r.0) answer.0 ∙ A.here;
          count = rw (← selects) (omega (arith, answer.1.0, count_window p a b w.ok.ordered));
          before = rw (← selects) answer.1.1.0;
          size = answer.1.1.1 ∙ selection_size t size families laid e h s chosen P;
        }

    pub allotting_fits : t.displacement ≤ a → at + share.count ≤ 2 ^ 40
    allotting_fits after = omega (arith, allotted_fits A (elements_share t size P a (bytes_of w) after) there own, w.ok.near)

    pub allotting_next : Allotted L t.displacement size a (bytes_of w) shares₀ (set shares e share) (e + 1) (at + share.count)
    allotting_next = allotted_next A there share own
