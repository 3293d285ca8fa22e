-- What `read_siblings` knows once the first family was read, and what the siblings after it add. Assumes nothing.
use mathlib.Core.Path.{◌≡◌, refl, sym, ap, ap₂, ◌∙◌}
use mathlib.Core.List.{List, ◌++◌, append-nil}
use Prim.Native.Nat.{ℕ, zero, suc, ◌+◌, ◌-◌, ◌*◌, ◌/◌, ◌≤◌, ◌<◌, max}
use native.Mathlib.Omega.{arith}
use lib.ListN.{length, take, drop}
use Rattle.families.specs.Forest.{Forest, nil, end_of, WF}
use Rattle.families.specs.declared.Family.{Family}
use Rattle.families.specs.Flat.{total, flat}
use Rattle.families.proofs.Flats.{length_flat}
use Rattle.sheets.specs.declared.records.Limits.{Limits}
use Rattle.sheets.specs.declared.trees.Step.{Step}
use Rattle.std.specs.Prelude.{Result, Ok, Err}
use Rattle.sheets.specs.declared.refusals.Refused.{Refused}
use Rattle.sheets.specs.Refusals.{Read, got, refused, unless, and_then}
use Rattle.sheets.specs.Records.{family_record, last_of, fault}
use Rattle.sheets.specs.Sheet.{beside, forest_from}
use Rattle.sheets.specs.Steps.{Stepped, Written}
use Rattle.sheets.proofs.Shapes.{node_at, refused_not_got, unless_got, then_got, forest_shape}
use Rattle.sheets.proofs.Descent.{children, others, none_after, step, children_got, step_got}
use Rattle.sheets.proofs.Lent.{families_joined}
use Rattle.sheets.proofs.FamilySteps.{families_read}

module _ (xs : List ℕ) (levels : ℕ) (m : Limits) (at : ℕ) where
  -- ---- a refusal of the first family is the siblings' refusal
  same_refusal : (number place left q : ℕ) (c : Read Forest) → unless q at (and_then c (others xs levels m 0 at)) ≡ refused number place
      → unless q at (and_then c (others xs levels m left at)) ≡ refused number place
  unfolding unless and_then
  same_refusal number place left zero (got kids) e = refused_not_got (sym e ∙ none_after xs levels m at kids)
  same_refusal number place left zero (refused k p) e = e
  same_refusal number place left (suc q) c e = e

  pub siblings_refused : (count number place : ℕ) → 1 ≤ levels → 0 < count → forest_from xs levels m 1 at ≡ refused number place → forest_from xs levels m count at ≡ refused number place
  siblings_refused count number place deep some e =
      step xs levels m count at deep some ∙ same_refusal number place (count - 1) (fault levels m xs 3 at) (children xs (levels - 1) m at) (sym (step xs levels m 1 at deep (omega arith)) ∙ e)

-- ---- the first family was read
pub record FirstRead (xs : List ℕ) (levels : ℕ) (m : Limits) (count at : ℕ) (r : Step) : Type 0 where
  pub kids : Forest
  pub first : forest_from xs levels m 1 at ≡ got (node_at xs at kids nil)
  pub all : forest_from xs levels m count at ≡ others xs levels m (count - 1) at kids
  pub place : r.place ≡ at + 22 * suc (total kids)
  pub end : r.end ≡ last_of (family_record xs at) + 1
  pub starts : m.from ≤ last_of (family_record xs at)
  pub room : suc (total kids) ≤ m.room
  pub inside : r.place ≤ length xs

module _ (xs : List ℕ) (levels : ℕ) (m : Limits) (count at : ℕ) (deep : 1 ≤ levels) (some : 0 < count) (there : at ≤ length xs) where
  first_kids : (F : Forest) → forest_from xs levels m 1 at ≡ got F
      → (kids : Forest) × (F ≡ node_at xs at kids nil) × (forest_from xs levels m count at ≡ others xs levels m (count - 1) at kids)
  unfolding and_then unless
  first_kids F e =
      let fine = unless_got (fault levels m xs 3 at) at _ (sym (step xs levels m 1 at deep (omega arith)) ∙ e) in
      let kids = then_got (children xs (levels - 1) m at) (others xs levels m 0 at) fine.1 in
      let one : ◌≡◌ {A = Read Forest} (got (node_at xs at kids.0 nil)) (got F) = sym (none_after xs levels m at kids.0) ∙ kids.2 in
      (kids.0, cc, children_got xs levels m count at deep some fine.0 kids.0 kids.1)

  pub first_read : (r : Step) → Stepped at m.from (forest_from xs levels m 1 at) (Ok r) → FirstRead xs levels m count at r
  unfolding total end_of WF
  first_read r q =
      let S = step_got at m.from r (forest_from xs levels m 1 at) q in
      let k = first_kids S.forest S.is in
      let e : forest_from xs levels m 1 at ≡ got (node_at xs at k.0 nil) = S.is ∙ ap got k.1 in
      let H = forest_shape xs levels m 1 at (node_at xs at k.0 nil) (λ h. absurd (omega arith)) there e in
      let place : r.place ≡ at + 22 * suc (total k.0 + 0) = S.place ∙ ap (λ (F : Forest). at + 22 * total F) k.1 in
      let end : r.end ≡ max m.from (max (last_of (family_record xs at) + 1) 0) = S.end ∙ ap (λ (F : Forest). max m.from (end_of F)) k.1 in
      record {
        kids = k.0;
        first = e;
        all = k.2;
        place = omega arith;
        end = omega (arith, H.rules.0.after);
        starts = omega (arith, H.rules.0.after);
        room = omega (arith, H.room);
        inside = omega (arith, H.inside);
      }

-- ---- and then the siblings after it
module _ (xs : List ℕ) (levels : ℕ) (m : Limits) (count at : ℕ) (r : Step) (O : FirstRead xs levels m count at r) where
  pub span_is : (r.place - at) / 22 ≡ suc (total O.kids)
  span_is = ap (λ (x : ℕ). (x - at) / 22) O.place ∙ families_read at (suc (total O.kids))

  -- what the code reads next, and what the definition does
  abbrev next_limits : Limits
  next_limits = record { bound = m.bound; from = r.end; room = m.room - (r.place - at) / 22 }

  rest_read : forest_from xs levels next_limits (count - 1) r.place ≡ forest_from xs levels (beside m (family_record xs at) (total O.kids)) (count - 1) (at + 22 * suc (total O.kids))
  rest_read =
      ap₂ (λ (l : Limits) (x : ℕ). forest_from xs levels l (count - 1) x) (ap₂ (λ (a b : ℕ). record { bound = m.bound; from = a; room = m.room - b }) O.end span_is) O.place

  step_over : (R : Read Forest) (after : Result Step Refused) → Stepped r.place r.end R after
      → Stepped at m.from (and_then R (λ rest. got (node_at xs at O.kids rest))) after
  unfolding and_then total end_of
  step_over (got rest) (Ok s) e =
      let p : r.place + 22 * total rest ≡ at + 22 * suc (total O.kids + total rest) = omega (arith, O.place) in
      let q : max r.end (end_of rest) ≡ max m.from (max (last_of (family_record xs at) + 1) (end_of rest)) = omega (arith, O.end, O.starts) in
      e ∙ ap₂ (λ (a b : ℕ). record { place = a; end = b }) p q
  step_over (got rest) (Err f) e = e
  step_over (refused number place) (Ok s) e = e
  step_over (refused number place) (Err f) e = e

  pub rest_step : (after : Result Step Refused) → Stepped r.place r.end (forest_from xs levels next_limits (count - 1) r.place) after → Stepped at m.from (forest_from xs levels m count at) after
  rest_step after e = rw O.all (step_over _ after (rw rest_read at e))

  families_over : (before after behind : List Family) (span n : ℕ) (R : Read Forest) → span ≡ suc (total O.kids + 0) → n ≡ length after - span
      → after ≡ flat (node_at xs at O.kids nil) ++ drop (suc (total O.kids + 0)) before → Written R (take n (drop span after)) behind
      → Written (and_then R (λ rest. got (node_at xs at O.kids rest))) before (take span after ++ (behind ++ drop n (drop span after)))
  unfolding Written and_then total flat
  families_over before after behind span n (refused number place) a b e w = tt
  families_over before after behind span n (got rest) a b e w =
      let one = node_at xs at O.kids nil in
      let size : suc (total O.kids + 0) + total rest ≡ suc (total O.kids + total rest) = omega arith in
      families_joined (flat one) (flat rest) span (total rest) before after behind n (length_flat one ∙ sym a) b (rw a e) w ∙ rw (a, append-nil (flat O.kids), size) refl

  pub rest_written : (before after behind : List Family) (n : ℕ) → n ≡ length after - (r.place - at) / 22 → Written (forest_from xs levels m 1 at) before after
      → Written (forest_from xs levels next_limits (count - 1) r.place) (take n (drop ((r.place - at) / 22) after)) behind
      → Written (forest_from xs levels m count at) before (take ((r.place - at) / 22) after ++ (behind ++ drop n (drop ((r.place - at) / 22) after)))
  unfolding Written total
  rest_written before after behind n b first w = rw O.all (families_over before after behind _ n _ (omega (arith, span_is)) b (rw O.first at first) (rw rest_read at w))
