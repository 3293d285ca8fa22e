-- The calls that map offsets, case by case: an element was opened, and each check that follows refuses or passes. Assumes nothing.
use mathlib.Core.Path.{◌≡◌, refl, sym, ap, ◌∙◌}
use mathlib.Core.Bool.{Bool, true, false, not, true≢false}
use mathlib.Core.Logic.{⊎_elim}
use mathlib.Core.List.{List, [], ◌∷◌}
use Prim.Native.Nat.{ℕ, ◌≤◌, ◌<◌}
use native.Mathlib.Omega.{arith}
use borrow.Author.Tests.{le-leb, lt-leb}
use Rattle.counting.specs.Count.{count_below}
use Rattle.counting.proofs.Counts.{count_le}
use Rattle.counting.proofs.Cases.{lt_or_le}
use Rattle.counting.proofs.Nths.{nth_none}
use Rattle.counting.proofs.Periods.{owns_none}
use Rattle.families.specs.declared.Family.{Family}
use Rattle.families.specs.Forest.{has}
use Rattle.families.specs.Decoded.{tree_of}
use Rattle.sheets.specs.Sheet.{Reading}
use Rattle.maps.specs.Selected.{belongs, Byte}
use Rattle.maps.proofs.BytesOf.{inverse_near, inverse_far}
use Rattle.openings.specs.declared.Refusal.TheVariants.{Far, Foreign}
use Rattle.maps.specs.declared.Selection.{Selection}
use Rattle.openings.specs.Said.{done}
use Rattle.openings.specs.Refusals.{FAR, FOREIGN, refusal_says, unless_fault}
use Rattle.openings.specs.Offsets.{LIMIT, offsets_of, rank_of, place_of, interval_tests, unless_element}
use Rattle.openings.specs.Openings.{Passes}
use Rattle.openings.proofs.Orders.{row_there, row_absent, fault_refused, fault_passed}
use Rattle.openings.proofs.Opens.{ElementFine, OffsetFine, element_on, offset_on, Opened}
use Rattle.astrephon.specs.Maps.{exact_of, next_of, inverse_of, span_of}

-- ---- a file offset is mapped: its own by exact mapping, and any by next mapping
module _ {r : Reading} {e x : ℕ} (X : OffsetFine r e x) where
  pub exact_own : offsets_of r e x ≡ true → done (rank_of r e x ∷ []) ≡ exact_of r e x
  unfolding exact_of
  exact_own own = fault_passed _ _ 0 (row_absent FOREIGN _ (ap not own)) refl ∙ offset_on r e x X _

  pub next_any : done (rank_of r e x ∷ []) ≡ next_of r e x
  unfolding next_of
  next_any = offset_on r e x X _

-- ---- the bytes of an element that is there, both ways
module _ (r : Reading) (e : ℕ) (E : ElementFine r e) where
  from_on : (x : ℕ) → offsets_of r e x ≡ true → r.layout.displacement ≤ x
  unfolding offsets_of
  from_on x own = ⊎_elim (λ h. absurd (true≢false (sym own ∙ owns_none r.layout.displacement r.size (has (tree_of 4 r.layout e)) x h))) (λ h. h) (lt_or_le x r.layout.displacement)

  pub exact_byte : (x y : ℕ) → Byte (offsets_of r e) y x → x < LIMIT → done (y ∷ []) ≡ exact_of r e x
  exact_byte x y B near = ap (λ (n : ℕ). done (n ∷ [])) (sym B.1) ∙ exact_own (record { element = E; after = from_on x B.0; near = near }) B.0

  pub inverse_own : (y x : ℕ) → Byte (offsets_of r e) y x → x < LIMIT → done (x ∷ []) ≡ inverse_of r e y
  unfolding inverse_of
  inverse_own y x B near =
      let is : place_of r e y ≡ x = inverse_near (offsets_of r e) y x B LIMIT near in
      ap (λ (n : ℕ). done (n ∷ [])) (sym is)
      ∙ fault_passed _ _ 0 (row_absent FAR _ (lt-leb LIMIT (place_of r e y) (omega (arith, is)))) refl ∙ element_on r e E _

-- ---- an element was opened for a file offset: another element's, or this one's
module _ {r : Reading} {e x : ℕ} {s : Selection} {families : List Family} (K : Opened r e s families × OffsetFine r e x) where
  ranked : (y : ℕ) → y ≡ count_below (belongs s families) x → done (y ∷ []) ≡ done (rank_of r e x ∷ [])
  ranked y q = ap (λ (m : ℕ). done (m ∷ [])) (q ∙ ap (λ (p : ℕ → Bool). count_below p x) K.0.is)

  module _ (b : Bool) (has : b ≡ belongs s families x) where
    has_too : b ≡ offsets_of r e x
    has_too = has ∙ ap (λ (p : ℕ → Bool). p x) K.0.is

    pub exact_foreign : b ≡ false → refusal_says Foreign ≡ exact_of r e x
    unfolding exact_of
    exact_foreign foreign = fault_refused _ _ FOREIGN (row_there FOREIGN _ (ap not (sym has_too ∙ foreign))) (λ z. absurd (omega arith)) ∙ offset_on r e x K.1 _

    pub exact_at : (y : ℕ) → y ≡ count_below (belongs s families) x → b ≡ true → done (y ∷ []) ≡ exact_of r e x
    exact_at y rank own = ranked y rank ∙ exact_own K.1 (sym has_too ∙ own)

  pub next_at : (y : ℕ) → y ≡ count_below (belongs s families) x → done (y ∷ []) ≡ next_of r e x
  next_at y rank = ranked y rank ∙ next_any K.1

-- ---- an element was opened
module _ {r : Reading} {e : ℕ} {s : Selection} {families : List Family} (O : Opened r e s families) where
  -- ---- the inverse: a byte with no file offset below the limit, and one that has it
  module _ (y : ℕ) where
    no_place : place_of r e y ≡ LIMIT → refusal_says Far ≡ inverse_of r e y
    unfolding inverse_of
    no_place far = fault_refused _ _ FAR (row_there FAR _ (le-leb LIMIT (place_of r e y) (omega (arith, far)))) (λ z. absurd (omega arith)) ∙ element_on r e O.element _

    -- byte y has y bytes before it
    pub inverse_past : LIMIT ≤ y → refusal_says Far ≡ inverse_of r e y
    inverse_past h = no_place (nth_none (offsets_of r e) LIMIT y (omega (arith, count_le (offsets_of r e) LIMIT)))

    -- a byte at or before y is past the limit, and so is byte y
    pub inverse_beyond : (z x : ℕ) → Byte (belongs s families) z x → z ≤ y → LIMIT ≤ x → refusal_says Far ≡ inverse_of r e y
    inverse_beyond z x byte l h = no_place (inverse_far (offsets_of r e) z x (rw (← O.is) byte) LIMIT h y l)

    pub inverse_at : (x : ℕ) → Byte (belongs s families) y x → x < LIMIT → done (x ∷ []) ≡ inverse_of r e y
    inverse_at x byte h = inverse_own r e O.element y x (rw (← O.is) byte) h

  -- ---- the span, of an interval that passes
  pub span_at : (a z : ℕ) → Passes (λ next. unless_element r e (unless_fault (interval_tests r.layout.displacement a z) next))
      → (first last : ℕ) → first ≡ count_below (belongs s families) a → last ≡ count_below (belongs s families) z → done (first ∷ last ∷ []) ≡ span_of r e a z
  unfolding span_of
  span_at a z P first last f l =
      let rank : (x y : ℕ) → y ≡ count_below (belongs s families) x → y ≡ rank_of r e x = λ x y q. q ∙ ap (λ (p : ℕ → Bool). count_below p x) O.is in
      (λ i. done (rank a first f i ∷ rank z last l i ∷ [])) ∙ P _
