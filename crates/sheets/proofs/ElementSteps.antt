-- What `read_elements` and `read_records` know on their way: an element that was read, and what the elements after it add. Assumes nothing.
use mathlib.Core.Path.{◌≡◌, refl, sym, ap, ap₂, ◌∙◌}
use mathlib.Core.List.{List, ◌∷◌, ◌++◌}
use Prim.Native.Nat.{ℕ, zero, suc, ◌+◌, ◌-◌, ◌*◌, ◌/◌, ◌≤◌, ◌<◌, max}
use native.Mathlib.Numerals.{add-one}
use native.Mathlib.Omega.{arith}
use lib.ListN.{length, take, drop}
use Rattle.families.specs.declared.Element.{Element}
use Rattle.families.specs.declared.Family.{Family}
use Rattle.families.specs.Forest.{Forest, end_of}
use Rattle.families.specs.Flat.{width, total, flat, totals, flats, elements_at}
use Rattle.families.proofs.Flats.{length_flat}
use Rattle.sheets.specs.declared.trees.Step.{Step}
use Rattle.sheets.specs.declared.elements.Progress.{Progress}
use Rattle.std.specs.Prelude.{Result, Ok, Err}
use Rattle.sheets.specs.declared.refusals.Refused.{Refused}
use Rattle.sheets.specs.Refusals.{Read, got, refused, unless, and_then, fault_number}
use Rattle.sheets.specs.Bytes.{le16}
use Rattle.sheets.specs.Records.{fault}
use Rattle.sheets.specs.Sheet.{top, forest_from, elements_from}
use Rattle.sheets.specs.Steps.{Checked, Stepped, Written, ends, with_element, Progressed, WrittenAll}
use Rattle.sheets.proofs.Faults.{element_taken}
use Rattle.sheets.proofs.Shapes.{forest_shape, element_inside}
use Rattle.sheets.proofs.Answered.{unless_refuses}
use Rattle.sheets.proofs.Lent.{families_joined}
use Rattle.sheets.proofs.Descent.{first_refused, first_got, step_got}

-- ---- one step of the reader
abbrev pub families_of : List ℕ → (room at : ℕ) → Read Forest
families_of xs room at = forest_from xs 4 (top room) (le16 xs (at + 4)) (at + 6)

abbrev pub elements_after : List ℕ → (room left at : ℕ) → Forest → Read (List Forest)
elements_after xs room left at F = elements_from xs (room - total F) left (at + 6 + 22 * total F)

abbrev joined : List ℕ → (room at left : ℕ) → Forest → Read (List Forest)
joined xs room at left F = and_then (elements_after xs room left at F) (λ Fs. got (F ∷ Fs))

abbrev stepped : List ℕ → (room at left : ℕ) → Read (List Forest)
stepped xs room at left = unless (fault 4 (top room) xs 2 at) at (and_then (families_of xs room at) (joined xs room at left))

step : (xs : List ℕ) (room count at : ℕ) → 0 < count → elements_from xs room count at ≡ stepped xs room at (count - 1)
unfolding elements_from
step xs room zero at some = absurd (omega arith)
step xs room (suc k) at some = ap (stepped xs room at) {x = k} {y = suc k - 1} (omega arith)

module _ (xs : List ℕ) (room count at : ℕ) (some : 0 < count) where
  pub element_fault_read : (r : Refused) → Checked (fault 4 (top room) xs 2 at) at (Err r) → elements_from xs room count at ≡ refused (fault_number r.fault) r.place
  element_fault_read r e = step xs room count at some ∙ unless_refuses r (fault 4 (top room) xs 2 at) at _ e

  module _ (fine : fault 4 (top room) xs 2 at ≡ 0) where
    pub families_refused : (number place : ℕ) → families_of xs room at ≡ refused number place → elements_from xs room count at ≡ refused number place
    families_refused number place q = step xs room count at some ∙ first_refused _ at _ _ fine number place q

    families_got : (F : Forest) → families_of xs room at ≡ got F → elements_from xs room count at ≡ joined xs room at (count - 1) F
    families_got F q = step xs room count at some ∙ first_got _ at _ _ fine F q

    pub element_there : (at + 6 ≤ length xs) × (1 ≤ le16 xs (at + 4))
    element_there = let T = element_taken 4 (top room) xs at fine in (element_inside xs at T.0, T.1)

-- ---- a refusal, and no element
same_progress : {a a' b b' c c' d d' : ℕ} {l l' : List Element} → a ≡ a' → b ≡ b' → c ≡ c' → d ≡ d' → l ≡ l'
    → ◌≡◌ {A = Progress} (record { place = a; end = b; elements = c; families = d; element = l }) (record { place = a'; end = b'; elements = c'; families = d'; element = l' })
same_progress p q r s t = λ i. record { place = p i; end = q i; elements = r i; families = s i; element = t i }

pub refused_on_all : (R : Read (List Forest)) (p : Progress) (r : Refused) → R ≡ refused (fault_number r.fault) r.place → (before after : List Family)
    → Progressed R p (Err r) × WrittenAll R before after
unfolding Progressed WrittenAll
refused_on_all R p r e before after = rw e ((refl, refl), tt)

pub progress_none : (xs : List ℕ) (room count at : ℕ) → count ≡ 0 → (p : Progress) (fs : List Family) → Progressed (elements_from xs room count at) p (Ok p) × WrittenAll (elements_from xs room count at) fs fs
unfolding elements_from Progressed WrittenAll totals flats ends elements_at
progress_none xs room count at e p fs = rw e (same p, refl)
  where
    same : (p : Progress) → p ≡ record { place = p.place + (6 * 0 + 22 * 0); end = max p.end 0; elements = p.elements + 0; families = p.families + 0; element = p.element }
    same p = same_progress (omega arith) (omega arith) (omega arith) (omega arith) refl

-- ---- an element that was read
pub record ElementTaken (xs : List ℕ) (room count at : ℕ) (r : Step) : Type 0 where
  pub families : Forest
  pub is : families_of xs room at ≡ got families
  pub all : elements_from xs room count at ≡ joined xs room at (count - 1) families
  pub wide : width families ≡ le16 xs (at + 4)
  pub place : r.place ≡ at + 6 + 22 * total families
  pub end : r.end ≡ end_of families
  pub span : (r.place - at - 6) / 22 ≡ total families
  pub fits : total families ≤ room
  pub inside : r.place ≤ length xs

module _ (xs : List ℕ) (room count at : ℕ) (some : 0 < count) (fine : fault 4 (top room) xs 2 at ≡ 0) where
  pub element_got : (r : Step) → Stepped (at + 6) 0 (families_of xs room at) (Ok r) → ElementTaken xs room count at r
  element_got r q =
      let S = step_got (at + 6) 0 r (families_of xs room at) q in
      let H = forest_shape xs 4 (top room) (le16 xs (at + 4)) (at + 6) S.forest (λ h. absurd (omega arith)) (element_there xs room count at some fine).0 S.is in
      record {
        families = S.forest;
        is = S.is;
        all = families_got xs room count at some fine S.forest S.is;
        wide = H.wide;
        place = S.place;
        end = omega (arith, S.end);
        span = omega (arith, S.place);
        fits = H.room;
        inside = omega (arith, S.place, H.inside);
      }

-- ---- and then the elements after it
module _ (xs : List ℕ) (room count at : ℕ) (r : Step) (T : ElementTaken xs room count at r) where
  abbrev rest : Read (List Forest)
  rest = elements_after xs room (count - 1) at T.families

  rest_read : (span : ℕ) → span ≡ (r.place - at - 6) / 22 → elements_from xs (room - span) (count - 1) r.place ≡ rest
  rest_read span g = ap₂ (λ (a b : ℕ). elements_from xs (room - a) (count - 1) b) (g ∙ T.span) T.place

  progress_over : (p : Progress) (after : Result Progress Refused) (R : Read (List Forest)) → p.place ≡ at → Progressed R (with_element p (width T.families) (total T.families) r) after
      → Progressed (and_then R (λ Fs. got (T.families ∷ Fs))) p after
  unfolding Progressed and_then totals ends elements_at
  progress_over p (Ok after) (refused number place) e q = q
  progress_over p (Err f) (refused number place) e q = q
  progress_over p (Err f) (got Fs) e q = q
  progress_over p (Ok after) (got Fs) e q =
      q ∙ same_progress (omega (arith, T.place)) (omega (arith, T.end)) (omega arith) (omega arith) (rw (add-one p.elements) refl)

  pub rest_progress : (p : Progress) (after : Result Progress Refused) (tops span : ℕ) → p.place ≡ at → tops ≡ le16 xs (at + 4) → span ≡ (r.place - at - 6) / 22
      → Progressed (elements_from xs (room - span) (count - 1) r.place) (with_element p tops span r) after → Progressed (elements_from xs room count at) p after
  rest_progress p after tops span e f g q =
      rw T.all (progress_over p after rest e (rw (rest_read span g, f ∙ sym T.wide, g ∙ T.span) at q))

  families_over : (before after behind : List Family) (span n : ℕ) (R : Read (List Forest)) → span ≡ total T.families → n ≡ length after - span
      → after ≡ flat T.families ++ drop (total T.families) before → WrittenAll R (take n (drop span after)) behind
      → WrittenAll (and_then R (λ Fs. got (T.families ∷ Fs))) before (take span after ++ (behind ++ drop n (drop span after)))
  unfolding WrittenAll and_then totals flats
  families_over before after behind span n (refused number place) a b e w = tt
  families_over before after behind span n (got Fs) a b e w =
      families_joined (flat T.families) (flats Fs) span (totals Fs) before after behind n (length_flat T.families ∙ sym a) b (rw a e) w ∙ rw a refl

  pub rest_written_all : (before after behind : List Family) (span n : ℕ) → span ≡ (r.place - at - 6) / 22 → n ≡ length after - span → Written (families_of xs room at) before after
      → WrittenAll (elements_from xs (room - span) (count - 1) r.place) (take n (drop span after)) behind
      → WrittenAll (elements_from xs room count at) before (take span after ++ (behind ++ drop n (drop span after)))
  unfolding Written
  rest_written_all before after behind span n g b first w =
      rw T.all (families_over before after behind span n rest (g ∙ T.span) b (rw T.is at first) (rw (rest_read span g) at w))
