-- The elements of a layout: which they are, that they share a window out, and what its tables say of each. Assumes nothing.
use mathlib.Core.Path.{◌≡◌, refl, sym, ap, ◌∙◌, subst}
use mathlib.Core.Bool.{Bool}
use mathlib.Core.List.{List}
use Prim.Native.Nat.{ℕ, suc, ◌-◌, ◌%◌, ◌≤◌, ◌<◌}
use native.Mathlib.Nat.{mod-lt}
use native.Mathlib.Omega.{arith}
use lib.ListN.{length, get_or}
use borrow.Author.Tests.{eq-eqb}
use Rattle.counting.specs.Count.{count_in}
use Rattle.counting.specs.Periodic.{owns}
use Rattle.counting.specs.Elements.{Elements, element, times, Partition}
use Rattle.counting.proofs.Gathers.{length_tabulated, tabulated_map}
use Rattle.counting.proofs.Periods.{period_count}
use Rattle.counting.proofs.Elements.{element_tabulated, times_owns}
use Rattle.families.specs.declared.Family.{Family}
use Rattle.families.specs.declared.Layout.{Layout}
use Rattle.families.specs.Forest.{has}
use Rattle.families.specs.Decoded.{tree_of, selections}
use Rattle.maps.specs.declared.Selection.{Selection}
use Rattle.maps.specs.Selected.{families_of, belongs, SelectionOk, selection_of, elements_of, PatternOk}
use Rattle.maps.proofs.Chosen.{belongs_tree, selection_ok}
use Rattle.moves.specs.declared.ahead.Stride.{Stride}
use Rattle.moves.specs.Strides.{AheadBy, around, Strides}
use Rattle.moves.specs.Owning.{held_by}
use Rattle.parts.specs.Tabled.{tabled}
use Rattle.trays.specs.Tables.{Tables}
use Rattle.moves.proofs.Looking.{ahead_by_place}

-- ---- the elements of a layout
module _ (t : Layout) (size : ℕ) where
  pub elements_length : length (elements_of t size) ≡ t.elements
  unfolding elements_of
  elements_length = length_tabulated 0 t.elements _

  -- EVERY OFFSET of a window after the displacement is in exactly one
  pub elements_share : PatternOk t size → (a n : ℕ) → t.displacement ≤ a → Partition (elements_of t size) a n
  unfolding elements_of selections
  elements_share P a n after x u v =
      let d = t.displacement in
      ap (λ (L : Elements). times L x) (sym (tabulated_map (owns d size) 0 t.elements (λ e. has (tree_of 4 t e))))
      ∙ times_owns (selections 4 t) d size x (omega arith) ∙ P.once ((x - d) % size) (mod-lt (x - d) P.least)

  -- s, the selection of element e
  module _ (families : List Family) (laid : families ≡ t.family) (e : ℕ) (h : e < t.elements) (s : Selection) (chosen : s ≡ selection_of t size e) where
    pub selection_belongs : belongs s families ≡ element (elements_of t size) e
    unfolding elements_of
    selection_belongs = rw (chosen, laid) (belongs_tree t e size ∙ sym (element_tabulated _ t.elements e h))

    pub selection_from : s.from ≡ t.displacement
    unfolding selection_of
    selection_from = ap (λ (r : Selection). r.from) chosen

    -- its size is what the element has of a period
    pub selection_size : PatternOk t size → s.size ≡ count_in (element (elements_of t size) e) t.displacement size
    unfolding selection_of belongs
    selection_size P =
        let q = has (families_of s families) in
        let period : s.period ≡ size = ap (λ (r : Selection). r.period) chosen in
        (let ok : SelectionOk s families = rw (chosen, laid) (selection_ok t size P e h) in ok.size)
        ∙ sym (period_count s.from s.period q)
        ∙ ap (λ (p : ℕ → Bool). count_in p s.from s.period) selection_belongs
        ∙ rw (selection_from, period) refl

  -- ---- tables of it
  module _ {owners : List ℕ} {strides : List Stride} (T : Tables t size owners strides) where
    element_held : (e : ℕ) → e < t.elements → element (elements_of t size) e ≡ owns t.displacement size (held_by owners (suc e))
    unfolding tabled
    element_held e h = ap (λ (K : Elements). element K e) (sym T.is) ∙ element_tabulated _ t.elements e h

    -- a walk over an element can use them
    pub tables_strides : PatternOk t size → (e : ℕ) → e < t.elements
        → Strides (selection_of t size e) (belongs (selection_of t size e) t.family) strides
    unfolding selection_of
    tables_strides P e h =
        let F = T.each e h in
        rw (selection_belongs t.family refl e h (selection_of t size e) refl ∙ element_held e h) (record {
          some = P.least;
          held = F.held;
          each = λ x after m. ahead_by_place t.displacement size (held_by owners (suc e)) x after P.least F m;
        })

    -- every place is looked ahead from for its owner
    pub tables_ahead : (u : ℕ) → u < size → AheadBy (around (held_by owners (get_or owners u 0)) size) u size strides u
    tables_ahead u h =
        let o = get_or owners u 0 in
        let is : suc (o - 1) ≡ o = omega (arith, T.owned.some u h) in
        let F = T.each (o - 1) (omega (arith, T.owned.some u h, T.owned.most u h)) in
        subst (λ (i : ℕ). AheadBy (around (held_by owners i) size) u size strides u) is (F.each u h (eq-eqb o (suc (o - 1)) (sym is)))
