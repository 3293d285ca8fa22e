-- WHERE A MARK FALLS: 02's W13. Plots place marks by file offset and cut by subfile offset: a mark is told from a cut by next mapping and by the inverse alike.
-- Of calls that met their contracts, whatever the sheet and the element. What it comes to for numbers stands in counting. Assumes nothing.
use mathlib.Core.Path.{◌≡◌, refl, sym, ◌∙◌}
use mathlib.Core.List.{List}
use mathlib.Core.Logic.{◌↔◌, ⊎_elim}
use Prim.Native.Nat.{ℕ, ◌≤◌, ◌<◌}
use native.Mathlib.Omega.{arith}
use Rattle.std.specs.Prelude.{Ok, Err}
use Rattle.counting.proofs.Cases.{lt_or_le, above}
use Rattle.counting.proofs.Nths.{rank_at_most}
use Rattle.families.specs.declared.FileOffset.{FileOffset}
use Rattle.families.specs.declared.SubfileOffset.{SubfileOffset}
use Rattle.sheets.specs.Sheet.{read_sheet, Reading}
use Rattle.openings.specs.declared.Refusal.{Refusal}
use Rattle.openings.specs.Offsets.{LIMIT, offsets_of, rank_of, place_of}
use Rattle.openings.proofs.Orders.{never_both}
use Rattle.openings.proofs.Opens.{OffsetFine}
use Rattle.astrephon.proofs.Contracts.{Answer, Made, Next, Inverse}
use Rattle.astrephon.proofs.Saying.{mapped_same}
use Rattle.astrephon.proofs.Mappings.{next_any, inverse_own}
use Rattle.astrephon.proofs.Undoing.{next_says, inverse_says, place_byte}

module _ (xs : List ℕ) (e : ℕ) (m m' : Made 1) where
  abbrev r : Reading
  r = read_sheet xs

  -- the inverse of y is z, and x is a file offset from the displacement on and below 2^40
  module _ (y : SubfileOffset) (z x : FileOffset) (answer : Answer SubfileOffset)
      (p : Inverse m xs e y.0 (Ok z)) (after : r.layout.displacement ≤ x.0) (near : x.0 < LIMIT) (q : Next m' xs e x.0 answer) where
    -- NEXT MAPPING OF x answers, and with at most y exactly when x is at most z
    pub next_at_most : (k : SubfileOffset) × (answer ≡ Ok k) × ((k.0 ≤ y.0) ↔ (x.0 ≤ z.0))
    next_at_most =
        let P = inverse_says r e y.0 z.0 (sym p) in
        let X : OffsetFine r e x.0 = record { element = P.0; after = after; near = near } in
        let k : SubfileOffset = record { 0 = rank_of r e x.0 } in
        (k, mapped_same answer (Ok k) (q ∙ sym (next_any X)), rw P.1 at (rank_at_most (offsets_of r e) LIMIT x.0 y.0 (omega arith)))

    -- .. so with more than y exactly when x is above z
    pub next_above : (k : SubfileOffset) × (answer ≡ Ok k) × ((y.0 < k.0) ↔ (z.0 < x.0))
    next_above = let N = next_at_most in (N.0, N.1, above N.0.0 y.0 x.0 z.0 N.2)

  -- WHERE THE INVERSE OF y IS REFUSED there is no byte y below 2^40, and next mapping of x, where it answers, gives at most y
  pub next_at_most_far : (y : SubfileOffset) (x : FileOffset) (k : SubfileOffset) (f : Refusal)
      → Inverse m xs e y.0 (Err f) → Next m' xs e x.0 (Ok k) → k.0 ≤ y.0
  next_at_most_far y x k f p q =
      let N = next_says r e x.0 k.0 (sym q) in
      let place = place_of r e y.0 in
      let told : place < LIMIT → ⊥ = λ l. never_both (p ∙ sym (inverse_own r e N.0.element y.0 place (place_byte r e y.0 place refl l) l)) in
      let far : LIMIT ≤ place = ⊎_elim (λ l. absurd (told l)) (λ l. l) (lt_or_le place LIMIT) in
      omega (arith, N.1, (rank_at_most (offsets_of r e) LIMIT x.0 y.0 (omega arith)).1 (omega arith))
