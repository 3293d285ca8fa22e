-- The selection of an element of a layout: what it has, and that an accepted sheet gives what the code asks of it. Assumes nothing.
use mathlib.Core.Path.{◌≡◌, refl, sym, ◌∙◌}
use mathlib.Core.Bool.{Bool, true, false}
use mathlib.Core.Logic.{⊎_elim}
use Prim.Native.Nat.{ℕ, zero, suc, ◌+◌, ◌^◌, ◌≤◌, ◌<◌, max}
use native.Mathlib.Omega.{arith}
use Rattle.counting.specs.Count.{bit, count_below}
use Rattle.counting.specs.Periodic.{owns}
use Rattle.counting.specs.Gather.{tabulated}
use Rattle.counting.specs.Elements.{times}
use Rattle.counting.proofs.Cases.{same_or_not}
use Rattle.counting.proofs.Counts.{count_stop}
use Rattle.families.specs.declared.Layout.{Layout}
use Rattle.families.specs.Forest.{Forest, has, end_of, size_of}
use Rattle.families.specs.Decoded.{element_of, tree_of, selections, LayoutOk}
use Rattle.families.proofs.Forests.{size_at}
use Rattle.families.proofs.Flats.{element_some, element_sound, element_size, element_small}
use Rattle.sheets.specs.Sheet.{Reading}
use Rattle.sheets.proofs.Accepted.{Accepted}
use Rattle.maps.specs.declared.Selection.{Selection}
use Rattle.maps.specs.Selected.{families_of, belongs, SelectionOk, selection_of, PatternOk}

-- ---- an offset in no element
bit_none : (b : Bool) → bit b ≡ 0 → b ≡ false
bit_none true z = absurd (omega arith)
bit_none false z = refl

times_none : (f : ℕ → ℕ → Bool) (a n x : ℕ) → times (tabulated a n f) x ≡ 0 → (e : ℕ) → a ≤ e → e < a + n → f e x ≡ false
unfolding times tabulated
times_none f a zero x z e l h = absurd (omega arith)
times_none f a (suc n) x z e l h = ⊎_elim
    (λ here. rw here (bit_none (f a x) (omega arith)))
    (λ later. times_none f (suc a) n x (omega arith) e (omega arith) (omega arith))
    (same_or_not e a)

-- ---- families that have nothing from n on have their size below n
size_below : (F : Forest) (n : ℕ) → ((x : ℕ) → n ≤ x → has F x ≡ false) → size_of F ≡ count_below (has F) n
size_below F n none = sym (size_at F (max n (end_of F)) (omega arith)) ∙ count_stop (has F) n (max n (end_of F)) (omega arith) none

-- ---- an element of a layout
module _ (t : Layout) (e : ℕ) where
  -- its selection is made of its tree
  pub families_tree : (size : ℕ) → families_of (selection_of t size e) t.family ≡ tree_of 4 t e
  unfolding selection_of
  families_tree size = refl

  pub belongs_tree : (size : ℕ) → belongs (selection_of t size e) t.family ≡ owns t.displacement size (has (tree_of 4 t e))
  unfolding belongs selection_of
  belongs_tree size = refl

  -- ---- `selection_of`: what it makes of the size that `families` answers
  module _ (ok : LayoutOk 4 65535 t) (h : e < t.elements) (F : Forest) (lent : F ≡ tree_of 4 t e) (selected : ℕ) (is : selected ≡ size_of F) where
    pub chosen_small : selected < 2 ^ 32
    chosen_small = omega (arith, element_small 4 65535 t ok e h F lent selected is)

    pub chosen_is : (size : ℕ)
        → ◌≡◌ {A = Selection}
        (record { from = t.displacement; period = size; levels = 4; first = (element_of t e).first; tops = (element_of t e).tops; size = selected })
        (selection_of t size e)
    unfolding selection_of
    chosen_is size = rw (element_size 4 65535 t ok e h F lent selected is) refl

-- ---- THE ELEMENTS of a pattern that they share out are selections that the code takes
module _ (t : Layout) (size : ℕ) (P : PatternOk t size) (e : ℕ) (h : e < t.elements) where
  none_past : (x : ℕ) → size ≤ x → has (tree_of 4 t e) x ≡ false
  unfolding selections
  none_past x l = times_none (λ i. has (tree_of 4 t i)) 0 t.elements x (P.past x l) e (omega arith) (omega arith)

  pub selection_ok : SelectionOk (selection_of t size e) t.family
  unfolding selection_of
  selection_ok = record {
    sound = element_sound 4 65535 t P.ok e h (omega arith);
    size = size_below (tree_of 4 t e) size none_past;
    some = element_some 4 65535 t P.ok e h;
    short = omega (arith, P.most);
  }

-- an accepted sheet has such a pattern
pub accepted_pattern : (r : Reading) → Accepted r → PatternOk r.layout r.size
accepted_pattern r A = record { ok = A.ok; least = A.least; most = A.most; once = A.once; past = A.past }
