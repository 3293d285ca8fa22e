-- What the calls that map offsets have to do with each other, of their contracts: exact mapping and inverse undo each other, next mapping is the exact mapping
-- of the next byte, and the elements share the file out. Assumes nothing.
use mathlib.Core.Path.{◌≡◌, sym, ap, ◌∙◌}
use mathlib.Core.Bool.{true, false, not}
use mathlib.Core.List.{List, [], ◌∷◌}
use Prim.Native.Nat.{ℕ, ◌-◌, ◌≤◌, ◌<◌}
use native.Mathlib.Omega.{arith}
use lib.Dec.{leb}
use borrow.Author.Tests.{leb-false, not-false}
use Rattle.std.specs.Prelude.{Ok}
use Rattle.counting.specs.Elements.{Elements}
use Rattle.counting.proofs.Nths.{nth_found, nth_exactly}
use Rattle.families.specs.declared.FileOffset.{FileOffset}
use Rattle.families.specs.declared.SubfileOffset.{SubfileOffset}
use Rattle.sheets.specs.Refusals.{◌when◌}
use Rattle.sheets.specs.Sheet.{read_sheet, Reading}
use Rattle.sheets.proofs.Accepted.{accepted_law}
use Rattle.sheets.proofs.Faults.{no_fault}
use Rattle.maps.specs.Selected.{Byte, ranks}
use Rattle.maps.proofs.BytesOf.{next_is}
use Rattle.maps.proofs.Sharing.{ranks_sum}
use Rattle.openings.specs.Said.{done}
use Rattle.openings.specs.Refusals.{FAR, FOREIGN}
use Rattle.openings.specs.Offsets.{LIMIT, offsets_of, rank_of, place_of}
use Rattle.openings.proofs.Orders.{fault_through, same_value}
use Rattle.openings.proofs.Opens.{ElementFine, OffsetFine, element_through, offset_through}
use Rattle.astrephon.specs.Maps.{exact_of, next_of, inverse_of, exact_call, inverse_call}
use Rattle.astrephon.specs.Moves.{elements_read}
use Rattle.astrephon.proofs.Contracts.{Answer, Made, Exact, Next, Inverse}
use Rattle.astrephon.proofs.Saying.{mapped_same, located_same}
use Rattle.astrephon.proofs.Mappings.{exact_byte, inverse_own}
use Rattle.astrephon.proofs.Trays.{elements_map}

-- ---- what exact mapping says, next mapping, and the inverse
module _ (r : Reading) (e : ℕ) where
  exact_says : (x y : ℕ) → exact_of r e x ≡ done (y ∷ []) → OffsetFine r e x × Byte (offsets_of r e) y x
  unfolding exact_of
  exact_says x y q =
      let offset = offset_through r e x q in
      let own = fault_through ((FOREIGN when not (offsets_of r e x)) ∷ []) offset.1 in
      (offset.0, (not-false (offsets_of r e x) (no_fault FOREIGN _ _ (omega arith) own.0).0, same_value own.1))

  pub next_says : (x y : ℕ) → next_of r e x ≡ done (y ∷ []) → OffsetFine r e x × (rank_of r e x ≡ y)
  unfolding next_of
  next_says x y q = let offset = offset_through r e x q in (offset.0, same_value offset.1)

  pub inverse_says : (y x : ℕ) → inverse_of r e y ≡ done (x ∷ []) → ElementFine r e × (place_of r e y ≡ x) × (x < LIMIT)
  unfolding inverse_of
  inverse_says y x q =
      let element = element_through r e q in
      let place = fault_through ((FAR when leb LIMIT (place_of r e y)) ∷ []) element.1 in
      let is : place_of r e y ≡ x = same_value place.1 in
      (element.0, is, omega (arith, is, leb-false LIMIT (place_of r e y) (no_fault FAR _ _ (omega arith) place.0).0))

  -- the place is the byte's
  pub place_byte : (y x : ℕ) → place_of r e y ≡ x → x < LIMIT → Byte (offsets_of r e) y x
  place_byte y x is near =
      let F = nth_found (offsets_of r e) LIMIT y ((nth_exactly (offsets_of r e) LIMIT y).0 (omega (arith, is))) in
      (ap (offsets_of r e) (sym is) ∙ F.passes, ap (rank_of r e) (sym is) ∙ F.rank)

-- ---- EXACT MAPPING AND INVERSE undo each other: where one is accepted so is the other, and it gives back what was asked
module _ (xs : List ℕ) (e : ℕ) where
  pub inverse_of_lem : (x y : ℕ) → exact_call xs e x ≡ done (y ∷ []) → inverse_call xs e y ≡ done (x ∷ [])
  inverse_of_lem x y q =
      let S = exact_says (read_sheet xs) e x y q in
      sym (inverse_own (read_sheet xs) e S.0.element y x S.1 S.0.near)

  exact_of_lem : (y x : ℕ) → inverse_call xs e y ≡ done (x ∷ []) → exact_call xs e x ≡ done (y ∷ [])
  exact_of_lem y x q =
      let S = inverse_says (read_sheet xs) e y x q in
      sym (exact_byte (read_sheet xs) e S.0 x y (place_byte (read_sheet xs) e y x S.1 S.2) S.2)

  module _ (m m' : Made 1) where
    pub exact_then_inverse : (x : FileOffset) (y : SubfileOffset) (r : Answer FileOffset) → Exact m xs e x.0 (Ok y) → Inverse m' xs e y.0 r → r ≡ Ok x
    exact_then_inverse x y r p q = located_same r (Ok x) (q ∙ inverse_of_lem x.0 y.0 (sym p))

    pub inverse_then_exact : (y : SubfileOffset) (x : FileOffset) (r : Answer SubfileOffset) → Inverse m xs e y.0 (Ok x) → Exact m' xs e x.0 r → r ≡ Ok y
    inverse_then_exact y x r p q = mapped_same r (Ok y) (q ∙ exact_of_lem y.0 x.0 (sym p))

    -- ---- NEXT MAPPING of x is the exact mapping of z, the element's first byte from x on
    pub next_then_exact : (x z : ℕ) (y : SubfileOffset) (r : Answer SubfileOffset) → Next m xs e x (Ok y) → x ≤ z → z < LIMIT
        → offsets_of (read_sheet xs) e z ≡ true → ((w : ℕ) → x ≤ w → w < z → offsets_of (read_sheet xs) e w ≡ false) → Exact m' xs e z r → r ≡ Ok y
    next_then_exact x z y r p h near own none q =
        let S = next_says (read_sheet xs) e x y.0 (sym p) in
        let B = next_is (offsets_of (read_sheet xs) e) x z h own none in
        mapped_same r (Ok y) (q ∙ sym (exact_byte (read_sheet xs) e S.0.element z y.0 (own, B.1 ∙ S.1) near))

-- ---- THE RANKS of x in all elements of an accepted sheet sum to what lies between the displacement and x
pub ranks_share : (xs : List ℕ) (x : ℕ) → let r = read_sheet xs in r.number ≡ 0 → ranks (elements_read r) x ≡ x - r.layout.displacement
ranks_share xs x fine = ap (λ (L : Elements). ranks L x) (sym (elements_map (read_sheet xs))) ∙ ranks_sum (read_sheet xs) (accepted_law xs fine) x
