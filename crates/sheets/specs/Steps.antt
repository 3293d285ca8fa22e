-- What the code says while it reads. The answer to a sheet does not depend on these. Assumes nothing: these are definitions.
use Rattle.std.specs.Prelude.{◌≡◌, List, [], ◌∷◌, ◌++◌, cond, ℕ, Result, Ok, Err, ◌+◌, ◌*◌, max, ltb, length, drop, set, replicate}
use Rattle.std.proofs.lemmas.List.Edits.{sets}
use Rattle.families.specs.Forest.{Forest, end_of}
use Rattle.families.specs.declared.Family.{Family}
use Rattle.families.specs.declared.Layout.{Layout}
use Rattle.families.specs.Decoded.{no_element, trees_of}
use Rattle.families.specs.Flat.{total, flat, totals, flats, elements_at}
use Rattle.sheets.specs.declared.trees.Step.{Step}
use Rattle.sheets.specs.declared.elements.Progress.{Progress}
use Rattle.sheets.specs.declared.refusals.Refused.{Refused}
use Rattle.sheets.specs.Refusals.{Read, got, refused, HOLE_OR_OVERLAP, NO_FLAG, fault_number}
use Rattle.sheets.specs.Sheet.{refusal, Reading}
use Rattle.sheets.specs.Pattern.{sizes, in_elements, first_uneven, flag_of}

-- a refusal in the code's words
abbrev pub Refuses : Refused → (number place : ℕ) → Type 0
Refuses r number place = (fault_number r.fault ≡ number) × (r.place ≡ place)

-- a record's fault, where it is refused
abbrev pub Checked : (fault at : ℕ) → Result (Unit {0}) Refused → Type 0
Checked fault at (Ok thing) = fault ≡ 0
Checked fault at (Err r) = Refuses r fault at

-- after siblings at `at` that start at `from` or later: where the next record starts, and the first offset past them all
abbrev pub Stepped : (at from : ℕ) → Read Forest → Result Step Refused → Type 0
Stepped at from (got F) (Ok s) = s ≡ record { place = at + 22 * total F; end = max from (end_of F) }
Stepped at from (got F) (Err r) = ⊥
Stepped at from (refused number place) (Ok s) = ⊥
Stepped at from (refused number place) (Err r) = Refuses r number place

-- siblings that were read stand in front of the lent families, and what stood behind them stays
unfoldable pub Written : Read Forest → (before after : List Family) → Type 0
Written (got F) before after = after ≡ flat F ++ drop (total F) before
Written (refused number place) before after = Unit {0}

-- ---- elements
-- the first offset past all elements
unfoldable pub ends : List Forest → ℕ
ends [] = 0
ends (F ∷ Fs) = max (end_of F) (ends Fs)

-- behind the header, with nothing read; and one element more
unfoldable pub start : Progress
start = record { place = 10; end = 0; elements = 0; families = 0; element = replicate 16 no_element }

abbrev pub with_element : Progress → (tops span : ℕ) → Step → Progress
with_element p tops span step =
    record {
      place = step.place;
      end = max p.end step.end;
      elements = p.elements + 1;
      families = p.families + span;
      element = set p.element p.elements (record { first = p.families; tops = tops; span = span });
    }

-- after elements that were read, or a refusal
unfoldable pub Progressed : Read (List Forest) → (before : Progress) → Result Progress Refused → Type 0
Progressed (got Fs) p (Ok after) =
    after ≡ record {
      place = p.place + (6 * length Fs + 22 * totals Fs);
      end = max p.end (ends Fs);
      elements = p.elements + length Fs;
      families = p.families + totals Fs;
      element = sets p.element p.elements (elements_at p.families Fs);
    }
Progressed (got Fs) p (Err r) = ⊥
Progressed (refused number place) p (Ok after) = ⊥
Progressed (refused number place) p (Err r) = Refuses r number place

unfoldable pub WrittenAll : Read (List Forest) → (before after : List Family) → Type 0
WrittenAll (got Fs) before after = after ≡ flats Fs ++ drop (totals Fs) before
WrittenAll (refused number place) before after = Unit {0}

-- ---- the answer
-- the layout of what was read
unfoldable pub layout_from : (displacement : ℕ) → Progress → List Family → Layout
layout_from d p families = record { displacement = d; elements = p.elements; families = p.families; element = p.element; family = families }

-- number 11, or the layout
unfoldable pub judged_layout : Layout → Reading
judged_layout t =
    cond (ltb (first_uneven (trees_of 4 t)) (sizes (trees_of 4 t)))
    (refusal HOLE_OR_OVERLAP (first_uneven (trees_of 4 t)) (flag_of (in_elements (trees_of 4 t) (first_uneven (trees_of 4 t)))))
    (record { number = 0; place = 0; flag = NO_FLAG; size = sizes (trees_of 4 t); layout = t })
