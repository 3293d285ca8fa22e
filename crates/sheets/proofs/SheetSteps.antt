-- What `read_records` knows on its way: the header, all elements, and no byte after them. Assumes nothing.
use mathlib.Core.Path.{◌≡◌, refl, sym, ap, ap₂, ◌∙◌}
use mathlib.Core.List.{List, [], ◌∷◌}
use Prim.Native.Nat.{ℕ, ◌+◌, ◌*◌, ◌≤◌, ◌<◌}
use lib.Dec.{ltb}
use lib.ListN.{length}
use borrow.Author.Tests.{lt-ltb, le-ltb}
use Rattle.families.specs.Forest.{Forest}
use Rattle.families.specs.Flat.{totals}
use Rattle.sheets.specs.declared.elements.Progress.{Progress}
use Rattle.std.specs.Prelude.{Ok, Err}
use Rattle.sheets.specs.declared.refusals.Refused.{Refused}
use Rattle.sheets.specs.Refusals.{Read, got, refused, unless, ◌when◌, first_fault, fault_number}
use Rattle.sheets.specs.Bytes.{le16}
use Rattle.sheets.specs.Records.{length_of, fault}
use Rattle.sheets.specs.Sheet.{top, end_of_records, elements_from, elements_of}
use Rattle.sheets.specs.Steps.{Checked, Progressed}
use Rattle.sheets.proofs.Faults.{header_taken}
use Rattle.sheets.proofs.Answered.{unless_refuses}
use Rattle.sheets.proofs.Descent.{first_refused, first_got}

-- ---- the header
module _ (xs : List ℕ) where
  pub header_refused : (r : Refused) → Checked (fault 4 (top 256) xs 1 0) 0 (Err r) → elements_of xs ≡ refused (fault_number r.fault) r.place
  unfolding elements_of
  header_refused r e = unless_refuses r (fault 4 (top 256) xs 1 0) 0 _ e

  module _ (fine : fault 4 (top 256) xs 1 0 ≡ 0) where
    pub header_there : (10 ≤ length xs) × (1 ≤ le16 xs 8) × (le16 xs 8 ≤ 16)
    unfolding length_of
    header_there = let H = header_taken 4 (top 256) xs 0 fine in (H.0.inside, H.1, H.2)

    -- ---- the elements, and the end
    abbrev ending : List Forest → Read (List Forest)
    ending Fs = unless (first_fault ((10 when ltb (end_of_records Fs) (length xs)) ∷ [])) (end_of_records Fs) (got Fs)

    pub elements_refused : (number place : ℕ) → elements_from xs 256 (le16 xs 8) 10 ≡ refused number place → elements_of xs ≡ refused number place
    unfolding elements_of
    elements_refused number place q = first_refused _ 0 _ ending fine number place q

    module _ (Fs : List Forest) (q : elements_from xs 256 (le16 xs 8) 10 ≡ got Fs) where
      then_ending : elements_of xs ≡ ending Fs
      unfolding elements_of
      then_ending = first_got _ 0 _ ending fine Fs q

      pub trailing_refused : end_of_records Fs < length xs → elements_of xs ≡ refused 10 (end_of_records Fs)
      unfolding first_fault unless
      trailing_refused h = then_ending ∙ rw (lt-ltb (end_of_records Fs) (length xs) h) refl

      pub all_read : length xs ≤ end_of_records Fs → elements_of xs ≡ got Fs
      unfolding first_fault unless
      all_read h = then_ending ∙ rw (le-ltb (end_of_records Fs) (length xs) h) refl

-- ---- what the code's answer tells
pub record ProgressGot (p r : Progress) (R : Read (List Forest)) : Type 0 where
  pub elements : List Forest
  pub is : R ≡ got elements
  pub place : r.place ≡ p.place + (6 * length elements + 22 * totals elements)
  pub progress : Progressed (got elements) p (Ok r)

pub progress_got : (p r : Progress) (R : Read (List Forest)) → Progressed R p (Ok r) → ProgressGot p r R
unfolding Progressed
progress_got p r (got Fs) e = record { elements = Fs; is = refl; place = ap (λ (s : Progress). s.place) e; progress = e }
progress_got p r (refused k q) e = absurd e

pub progress_refused : (p : Progress) (r : Refused) (R : Read (List Forest)) → Progressed R p (Err r) → R ≡ refused (fault_number r.fault) r.place
unfolding Progressed
progress_refused p r (got Fs) e = absurd e
progress_refused p r (refused k q) e = ap₂ refused (sym e.0) (sym e.1)
