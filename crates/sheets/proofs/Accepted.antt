-- AN ACCEPTED SHEET: what the layers above may use of it. They cite these laws, and never the text of the reader. Assumes nothing.
use mathlib.Core.Path.{◌≡◌, refl, sym, ap, ◌∙◌}
use mathlib.Core.List.{List, map}
use Prim.Native.Nat.{ℕ, ◌≤◌, ◌<◌}
use native.Mathlib.Omega.{arith}
use lib.Dec.{ltb}
use lib.ListN.{length}
use borrow.Author.Tests.{eq-eqb, le-ltb, ltb-false}
use Rattle.counting.specs.Periodic.{owns}
use Rattle.counting.specs.Elements.{times}
use Rattle.counting.proofs.Cases.{by_test}
use Rattle.counting.proofs.Stretches.{stretch_is}
use Rattle.families.specs.Forest.{Forest, has}
use Rattle.families.specs.Decoded.{element_of, tree_of, trees_of, selections, LayoutOk}
use Rattle.families.specs.Flat.{All, total, totals, layout_of}
use Rattle.families.proofs.Flats.{trees_back, element_span, selections_trees, layout_ok}
use Rattle.sheets.specs.Refusals.{Read, got, refused}
use Rattle.sheets.specs.Bytes.{le32}
use Rattle.sheets.specs.Sheet.{elements_of, refusal, accepted, judged, answer, read_sheet, Reading}
use Rattle.sheets.specs.Pattern.{sizes, first_uneven, Tiled}
use Rattle.sheets.specs.Encode.{ElementRules}
use Rattle.sheets.proofs.Shapes.{sheet_read}
use Rattle.sheets.proofs.Numbered.{refused_number}
use Rattle.sheets.proofs.Tiling.{size_most, none_past, file_once, size_least, each_shallow, each_ok, each_ruled}
use Rattle.sheets.proofs.Unevens.{uneven_le, even_before}

-- ---- the pattern is shared out exactly when the first uneven offset is its size, and then it is accepted
pub tiled_even : (Fs : List Forest) → Tiled Fs → first_uneven Fs ≡ sizes Fs
unfolding first_uneven
tiled_even Fs tiled = stretch_is _ (sizes Fs) 0 (sizes Fs) (omega arith) (λ x _ h. eq-eqb _ _ (tiled x (omega arith))) (λ h. absurd (omega arith))

pub even_tiled : (Fs : List Forest) → first_uneven Fs ≡ sizes Fs → Tiled Fs
even_tiled Fs e x h = even_before Fs x (omega arith)

pub judged_tiled : (d : ℕ) (Fs : List Forest) → Tiled Fs → judged d Fs ≡ accepted d Fs
unfolding judged
judged_tiled d Fs tiled = rw (le-ltb (first_uneven Fs) (sizes Fs) (omega (arith, tiled_even Fs tiled)))

tiled_judged : (d : ℕ) (Fs : List Forest) → (judged d Fs).number ≡ 0 → Tiled Fs
unfolding judged refusal
tiled_judged d Fs e = even_tiled Fs (by_test (ltb (first_uneven Fs) (sizes Fs))
    (λ uneven. absurd (omega (arith, rw uneven at e)))
    (λ even. omega (arith, ltb-false (first_uneven Fs) (sizes Fs) even, uneven_le Fs)))

-- ---- what was accepted are elements that were read and that share the pattern out
pub record AcceptedSheet (xs : List ℕ) : Type 0 where
  pub elements : List Forest
  pub read : elements_of xs ≡ got elements
  pub tiled : Tiled elements
  pub is : read_sheet xs ≡ accepted (le32 xs 4) elements

pub accepted_sheet : (xs : List ℕ) → (read_sheet xs).number ≡ 0 → AcceptedSheet xs
unfolding read_sheet answer refusal
accepted_sheet xs is_zero = by (elements_of xs) refl is_zero
  where
    by : (r : Read (List Forest)) → elements_of xs ≡ r → (answer (le32 xs 4) r).number ≡ 0 → AcceptedSheet xs
    by (got Fs) e z = let tiled = tiled_judged (le32 xs 4) Fs z in record { elements = Fs; read = e; tiled = tiled; is = rw e (judged_tiled (le32 xs 4) Fs tiled) }
    by (refused number place) e z = absurd (omega (arith, refused_number xs number place e))

-- ---- THE LAWS
pub record Accepted (r : Reading) : Type 0 where
  -- the sheet rules hold of each element's tree, there are 1 to 16 elements, and unused room holds no family
  pub ok : LayoutOk 4 65535 r.layout
  pub some : 1 ≤ r.layout.elements
  -- an element's span counts the families of all levels
  pub spans : (e : ℕ) → e < r.layout.elements → (element_of r.layout e).span ≡ total (tree_of 4 r.layout e)
  -- the pattern's size is the sum of the elements' sizes
  pub size : r.size ≡ sizes (trees_of 4 r.layout)
  pub least : 1 ≤ r.size
  pub most : r.size ≤ 65536
  -- an offset below it is in exactly one element, and none at or past it is in any
  pub once : (x : ℕ) → x < r.size → times (selections 4 r.layout) x ≡ 1
  pub past : (x : ℕ) → r.size ≤ x → times (selections 4 r.layout) x ≡ 0
  -- so every file offset from the displacement on is in exactly one element
  pub file : (x : ℕ) → r.layout.displacement ≤ x → times (map (owns r.layout.displacement r.size) (selections 4 r.layout)) x ≡ 1

module _ (d : ℕ) (Fs : List Forest) (each : All ElementRules Fs) (some : 1 ≤ length Fs) (few : length Fs ≤ 16) (room : totals Fs ≤ 256) (tiled : Tiled Fs) where
  back : trees_of 4 (layout_of d Fs) ≡ Fs
  back = trees_back 4 d Fs (each_shallow Fs each)

  select : selections 4 (layout_of d Fs) ≡ map has Fs
  select = selections_trees 4 (layout_of d Fs) ∙ ap (map has) back

  accepted_laws : Accepted (accepted d Fs)
  unfolding accepted layout_of
  accepted_laws =
      let least = size_least 65535 Fs (each_ok Fs each) some in
      record {
        ok = layout_ok 4 65535 d Fs (each_shallow Fs each) (each_ok Fs each) few room;
        some = some;
        spans = element_span 4 d Fs (each_shallow Fs each);
        size = ap sizes (sym back);
        least = least;
        most = size_most Fs tiled 65535 (each_ruled Fs each);
        once = λ x h. rw select (tiled x h);
        past = λ x h. rw select (none_past Fs tiled x h);
        file = λ x h. rw select (file_once Fs tiled least d x h);
      }

pub accepted_law : (xs : List ℕ) → (read_sheet xs).number ≡ 0 → Accepted (read_sheet xs)
accepted_law xs is_zero =
    let A = accepted_sheet xs is_zero in
    let S = sheet_read xs A.elements A.read in
    rw A.is (accepted_laws (le32 xs 4) A.elements S.each S.least S.most S.room A.tiled)
