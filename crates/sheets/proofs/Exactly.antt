-- ACCEPTED EXACTLY WHEN: a list of bytes is accepted exactly when it is the sheet of trees that meet the rules and share the pattern out. Assumes nothing.
use mathlib.Core.Path.{◌≡◌, ap, ◌∙◌}
use mathlib.Core.List.{List}
use Prim.Native.Nat.{ℕ}
use Rattle.families.specs.Forest.{Forest}
use Rattle.sheets.specs.Bytes.{le32, Bytes}
use Rattle.sheets.specs.Sheet.{accepted, answer, read_sheet, Reading}
use Rattle.sheets.specs.Encode.{encode, Rules, Good}
use Rattle.sheets.specs.Pattern.{Tiled}
use Rattle.sheets.proofs.There.{rules_read}
use Rattle.sheets.proofs.Back.{read_rules}
use Rattle.sheets.proofs.Accepted.{judged_tiled, accepted_sheet}

-- ---- THE SHEET of trees that meet the rules and share the pattern out is accepted, and gives their layout
pub good_read : (d : ℕ) (Fs : List Forest) → Rules d Fs → Tiled Fs → read_sheet (encode d Fs) ≡ accepted d Fs
unfolding read_sheet answer
good_read d Fs R tiled = rw ((rules_read d Fs R).0, (rules_read d Fs R).1) (judged_tiled d Fs tiled)

pub good_accepted : (xs : List ℕ) (G : Good xs) → read_sheet xs ≡ accepted G.displacement G.elements
good_accepted xs G = ap read_sheet G.is ∙ good_read G.displacement G.elements G.rules G.tiled

-- ---- what is accepted is such a sheet
pub accepted_good : (xs : List ℕ) → Bytes xs → (read_sheet xs).number ≡ 0 → Good xs
accepted_good xs B is_zero =
    let A = accepted_sheet xs is_zero in
    let was = read_rules xs B A.elements A.read in
    record { displacement = le32 xs 4; elements = A.elements; rules = was.0; tiled = A.tiled; is = was.1 }

pub accepted_exactly : (xs : List ℕ) → Bytes xs → ((read_sheet xs).number ≡ 0 → Good xs) × (Good xs → (read_sheet xs).number ≡ 0)
unfolding accepted
accepted_exactly xs B = (accepted_good xs B, λ G. ap (λ (r : Reading). r.number) (good_accepted xs G))
