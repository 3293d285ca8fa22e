-- The loop of `put_nexts`: the first places of the elements so far are written down. Assumes nothing.
use mathlib.Core.Path.{◌≡◌, sym, ap, ◌∙◌}
use mathlib.Core.List.{List}
use mathlib.Core.Logic.{⊎_elim}
use Prim.Native.Nat.{ℕ, suc, ◌+◌, ◌-◌, ◌^◌, ◌≤◌, ◌<◌}
use native.Mathlib.Nat.{add-sub_cancel_left}
use native.Mathlib.Numerals.{add-one}
use native.Mathlib.Omega.{arith}
use lib.ListN.{length, get_or, set, length-set}
use lib.Seq.{get_or-set_same, get_or-set_other}
use Rattle.counting.specs.Periodic.{owns}
use Rattle.counting.proofs.Cases.{same_or_not}
use Rattle.families.specs.declared.Family.{Family}
use Rattle.families.specs.declared.Layout.{Layout}
use Rattle.families.specs.Forest.{has}
use Rattle.families.specs.Decoded.{tree_of}
use Rattle.maps.specs.declared.Selection.{Selection}
use Rattle.maps.specs.Selected.{belongs, Byte, selection_of, PatternOk}
use Rattle.maps.proofs.Chosen.{belongs_tree}
use Rattle.moves.specs.Strides.{First}
use Rattle.moves.proofs.Looking.{byte_from, byte_first}

pub record Firsts (t : Layout) (size : ℕ) (nexts₀ nexts : List ℕ) (e : ℕ) : Type 0 where
  pub upto : e ≤ t.elements
  pub same : length nexts ≡ length nexts₀
  pub long : length nexts ≡ 17
  pub nobody : get_or nexts 0 0 ≡ size
  pub unused : (o : ℕ) → e < o → o < 17 → get_or nexts o 0 ≡ size
  pub past : (i : ℕ) → i < e → size ≤ get_or nexts (suc i) 0
  pub first : (i : ℕ) → i < e → First (has (tree_of 4 t i)) size (get_or nexts (suc i) 0 - size)

-- ---- x is the first byte of element e: it stands at the element's first place of the pattern
pub record FirstAt (t : Layout) (size e x : ℕ) : Type 0 where
  pub after : t.displacement ≤ x
  pub place : First (has (tree_of 4 t e)) size (x - t.displacement)

pub first_at : {t : Layout} {size e : ℕ} {s : Selection} {families : List Family} (x : ℕ) → PatternOk t size → families ≡ t.family → s ≡ selection_of t size e
    → Byte (belongs s families) 0 x → FirstAt t size e x
first_at {t} {size} {e} x P laid is B =
    let byte : Byte (owns t.displacement size (has (tree_of 4 t e))) 0 x = rw (is, laid, belongs_tree t e size) at B in
    record {
      after = byte_from t.displacement size (has (tree_of 4 t e)) x byte;
      place = byte_first t.displacement size (has (tree_of 4 t e)) x byte P.least;
    }

-- ---- one element more
module _ {t : Layout} {size e x : ℕ} {nexts₀ nexts : List ℕ} (F : Firsts t size nexts₀ nexts e) (P : PatternOk t size) (h : e < t.elements)
    (A : FirstAt t size e x) where
  abbrev next : ℕ
  next = size + (x - t.displacement)

  abbrev nexts' : List ℕ
  nexts' = set nexts (e + 1) next

  -- what the code asks to write it down
  pub firsts_small : next < 2 ^ 32
  firsts_small = omega (arith, A.place.inside, P.most)

  pub firsts_room : e + 1 < length nexts
  firsts_room = omega (arith, F.long, P.ok.room)

  here : next ≡ get_or nexts' (suc e) 0
  here = sym (ap (λ (o : ℕ). get_or nexts' o 0) (sym (add-one e)) ∙ get_or-set_same nexts (e + 1) next 0 firsts_room)

  other : (o : ℕ) → (o ≡ suc e → ⊥) → get_or nexts o 0 ≡ get_or nexts' o 0
  other o d = sym (get_or-set_other nexts (e + 1) o next 0 (λ z. d (omega arith)))

  -- what holds of the new number, and of those before it, holds of all
  upto_here : (C : (i v : ℕ) → Type 0) → C e next → ((i : ℕ) → i < e → C i (get_or nexts (suc i) 0)) → (i : ℕ) → i < e + 1 → C i (get_or nexts' (suc i) 0)
  upto_here C new old i l = ⊎_elim
      (λ z. rw z (rw here at new))
      (λ d. rw (other (suc i) (λ z. d (omega arith))) at (old i (omega arith)))
      (same_or_not i e)

  pub firsts_next : Firsts t size nexts₀ nexts' (e + 1)
  firsts_next =
      let kept : length nexts' ≡ length nexts = length-set nexts (e + 1) next in
      record {
        upto = omega arith;
        same = kept ∙ F.same;
        long = kept ∙ F.long;
        nobody = sym (other 0 (λ z. omega arith)) ∙ F.nobody;
        unused = λ o k l. sym (other o (λ z. omega arith)) ∙ F.unused o (omega arith) l;
        past = upto_here (λ i v. size ≤ v) (omega arith) F.past;
        first = upto_here (λ i v. First (has (tree_of 4 t i)) size (v - size)) (rw (add-sub_cancel_left size (x - t.displacement)) A.place) F.first;
      }
