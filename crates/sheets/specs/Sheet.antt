-- THE READER: what every list of bytes is as a layout sheet. Records are taken in sheet order, each family followed by its children, up to the first
-- refusal; then bytes that follow, then holes and overlaps. Assumes nothing: these are definitions.
use Rattle.std.specs.Prelude.{cond, List, [], ◌∷◌, ℕ, zero, suc, ◌+◌, ◌-◌, ◌*◌, ltb, length}
use Rattle.families.specs.declared.Family.{Family}
use Rattle.families.specs.declared.Layout.{Layout}
use Rattle.families.specs.Forest.{Forest, nil, node}
use Rattle.families.specs.Flat.{total, totals, layout_of}
use Rattle.sheets.specs.declared.records.Limits.{Limits}
use Rattle.sheets.specs.Refusals.{Read, got, refused, unless, and_then, ◌when◌, first_fault, TRAILING, HOLE_OR_OVERLAP, NO_FLAG}
use Rattle.sheets.specs.Bytes.{le16, le32}
use Rattle.sheets.specs.Records.{HEADER_KIND, ELEMENT_KIND, FAMILY_KIND, family_record, last_of, fault}
use Rattle.sheets.specs.Pattern.{sizes, in_elements, first_uneven, flag_of}

-- the limits of an element's top families, of a family's children, and of its next sibling, where it has k descendants
abbrev pub top : (room : ℕ) → Limits
top room = record { bound = 65535; from = 0; room = room }

abbrev pub within : Limits → Family → Limits
within m f = record { bound = f.r - f.l; from = 0; room = m.room - 1 }

abbrev pub beside : Limits → Family → (k : ℕ) → Limits
beside m f k = record { bound = m.bound; from = last_of f + 1; room = m.room - suc k }

-- `count` siblings, the first at `at`; `below` reads a family's children. A family record takes 22 bytes
unfoldable pub siblings_from : (below : Limits → (count at : ℕ) → Read Forest) → List ℕ → (levels : ℕ) → Limits → (count at : ℕ) → Read Forest
siblings_from below xs levels m zero at = got nil
siblings_from below xs levels m (suc k) at =
    unless (fault levels m xs FAMILY_KIND at) at
    (and_then (below (within m (family_record xs at)) (family_record xs at).children (at + 22))
    (λ kids. and_then (siblings_from below xs levels (beside m (family_record xs at) (total kids)) k (at + 22 * suc (total kids)))
    (λ rest. got (node (family_record xs at).l (family_record xs at).r (family_record xs at).s (family_record xs at).n kids rest))))

-- .. `levels` levels deep at most. Where no level is left there is none to read: its parent had no children, or was refused
unfoldable pub forest_from : List ℕ → (levels : ℕ) → Limits → (count at : ℕ) → Read Forest
forest_from xs zero m count at = got nil
forest_from xs (suc levels) m count at = siblings_from (forest_from xs levels) xs (suc levels) m count at

-- `count` elements, the first at `at`, with room for `room` families. An element record takes 6 bytes
unfoldable pub elements_from : List ℕ → (room count at : ℕ) → Read (List Forest)
elements_from xs room zero at = got []
elements_from xs room (suc k) at =
    unless (fault 4 (top room) xs ELEMENT_KIND at) at
    (and_then (forest_from xs 4 (top room) (le16 xs (at + 4)) (at + 6))
    (λ F. and_then (elements_from xs (room - total F) k (at + 6 + 22 * total F))
    (λ Fs. got (F ∷ Fs))))

-- where the records of the elements end
abbrev pub end_of_records : List Forest → ℕ
end_of_records Fs = 10 + (6 * length Fs + 22 * totals Fs)

-- THE ELEMENTS of a sheet: the header, each element with its families, and no byte after them
unfoldable pub elements_of : List ℕ → Read (List Forest)
elements_of xs =
    unless (fault 4 (top 256) xs HEADER_KIND 0) 0
    (and_then (elements_from xs 256 (le16 xs 8) 10)
    (λ Fs. unless (first_fault ((TRAILING when ltb (end_of_records Fs) (length xs)) ∷ [])) (end_of_records Fs) (got Fs)))

-- What a reader answers to a sheet, in 01's numbers. Number 0 is an accepted one, with its pattern's size and its layout; of a refused one these are 0
-- and blank
pub record Reading : Type 0 where
  pub number : ℕ
  pub place : ℕ
  pub flag : ℕ
  pub size : ℕ
  pub layout : Layout

-- THE ANSWER: a refused sheet has no layout, and what stands there instead is blank
unfoldable pub refusal : (number place flag : ℕ) → Reading
refusal number place flag = record { number = number; place = place; flag = flag; size = 0; layout = layout_of 0 [] }

unfoldable pub accepted : (displacement : ℕ) → List Forest → Reading
accepted d Fs = record { number = 0; place = 0; flag = NO_FLAG; size = sizes Fs; layout = layout_of d Fs }

-- number 11
unfoldable pub judged : (displacement : ℕ) → List Forest → Reading
judged d Fs = cond (ltb (first_uneven Fs) (sizes Fs)) (refusal HOLE_OR_OVERLAP (first_uneven Fs) (flag_of (in_elements Fs (first_uneven Fs)))) (accepted d Fs)

unfoldable pub answer : (displacement : ℕ) → Read (List Forest) → Reading
answer d (got Fs) = judged d Fs
answer d (refused number place) = refusal number place NO_FLAG

unfoldable pub read_sheet : List ℕ → Reading
read_sheet xs = answer (le32 xs 4) (elements_of xs)
