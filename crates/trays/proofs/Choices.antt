-- A tray that is moved in part: nothing of it, one part more, all of it, and what one pair of elements shares. Assumes nothing.
use mathlib.Core.Path.{◌≡◌, refl, sym, ap, ◌∙◌}
use mathlib.Core.Bool.{Bool, true, false, ◌&&◌, ◌||◌, cond, true≢false}
use mathlib.Core.List.{List, ◌++◌}
use mathlib.Core.Logic.{⊎_elim}
use Rattle.std.specs.Prelude.{Option, None, Some}
use Prim.Native.Nat.{ℕ, suc, ◌+◌, ◌≤◌, ◌<◌}
use native.Mathlib.Numerals.{add-one}
use native.Mathlib.Omega.{arith}
use lib.Dec.{leb, ltb}
use lib.ListN.{length, take, drop}
use borrow.Author.Tests.{le-leb, lt-ltb, le-ltb, leb-true}
use Rattle.counting.specs.Count.{count_in}
use Rattle.counting.specs.Gather.{gathered}
use Rattle.counting.specs.Elements.{Elements, element, times, first_of, Partition}
use Rattle.counting.specs.Trays.{counts, tray, in_tray, moved, pair_moved}
use Rattle.counting.proofs.Cases.{by_test, lt_or_le, cond_same}
use Rattle.counting.proofs.Elements.{first_lt, first_has, first_only}
use Rattle.counting.proofs.Gathers.{gathered_ext, get_or_gathered}
use Rattle.counting.proofs.Trays.{tray_ext, tray_length, tray_of}
use Rattle.counting.proofs.TrayParts.{tray_part, tray_put}
use Rattle.parts.specs.declared.choices.Chosen.{Chosen}
use Rattle.parts.specs.Pieces.{takes, renewed}
use Rattle.trays.specs.Parts.{within, moved_where}

-- ---- the elements that are chosen
within_none : (M : Elements) (k x : ℕ) → within M k k x ≡ false
within_none M k x = by_test (leb k (first_of M x)) (λ l. rw (l, le-ltb (first_of M x) k (leb-true k (first_of M x) l)) refl) (λ l. rw l refl)

module _ (M : Elements) (x : ℕ) (once : times M x ≡ 1) where
  within_all : within M 0 (length M) x ≡ true
  within_all = rw (le-leb 0 (first_of M x) (omega arith), lt-ltb (first_of M x) (length M) (first_lt M x (omega (arith, once)))) refl

  -- below j and below its successor is the same for any other number
  below_next : (j : ℕ) → element M j x ≡ false → ltb (first_of M x) (suc j) ≡ ltb (first_of M x) j
  below_next j e =
      let f = first_of M x in
      let other : f ≡ j → ⊥ = λ s. true≢false (sym (first_has M x (omega (arith, once))) ∙ ap (λ (i : ℕ). element M i x) s ∙ e) in
      ⊎_elim
      (λ l. lt-ltb f (suc j) (omega arith) ∙ sym (lt-ltb f j l))
      (λ l. ⊎_elim (λ g. le-ltb f (suc j) (omega arith) ∙ sym (le-ltb f j l)) (λ g. absurd (other (omega arith))) (lt_or_le j f))
      (lt_or_le f j)

  -- ONE ELEMENT MORE
  within_more : (first j : ℕ) → first ≤ j → within M first (suc j) x ≡ (element M j x || within M first j x)
  within_more first j l = by_test (element M j x)
      (λ e. rw (e, first_only M x j once e, le-leb first j l, lt-ltb j (suc j) (omega arith)) refl)
      (λ e. rw e (ap (λ (b : Bool). leb first (first_of M x) && b) (below_next j e)))

or-false : (b : Bool) → (b || false) ≡ b
or-false true = refl
or-false false = refl

nested : (s e w : Bool) (v u : ℕ) → cond e (cond s v (cond (s && w) v u)) (cond (s && w) v u) ≡ cond (s && (e || w)) v u
nested true true w v u = refl
nested true false w v u = refl
nested false e w v u = cond_same e refl

-- ---- a part of a tray, renewed
renewed_gathered : (q : ℕ → Bool) (a n : ℕ) (taken : ℕ → Bool) (f g : ℕ → ℕ)
    → renewed q a n taken f (gathered q a n g) ≡ gathered q a n (λ x. cond (taken x) (f x) (g x))
unfolding renewed
renewed_gathered q a n taken f g = gathered_ext q a n _ _ (λ x u v e. ap (λ (z : ℕ). cond (taken x) (f x) z) (get_or_gathered q a n g x u v e))

-- ---- u, a tray of M, with t's bytes at what is chosen
module _ (L M : Elements) (a n : ℕ) (once : Partition M a n) (t u : List ℕ) where
  pub length_where : (c : Chosen) → length (moved_where L M a n t c u) ≡ n
  unfolding moved_where
  length_where c = tray_length M a n once _

  -- no element is chosen
  pub where_none : length u ≡ n → (only : Option ℕ) (k : ℕ) → moved_where L M a n t (record { only = only; first = k; last = k }) u ≡ u
  unfolding moved_where
  where_none long only k =
      tray_ext M a n _ (in_tray M a n u) (λ x _ _ _. rw (within_none M k x) (neither (takes L only x) _ _)) ∙ tray_of M a n once u long
    where
      neither : (s : Bool) (v w : ℕ) → cond (s && false) v w ≡ w
      neither true v w = refl
      neither false v w = refl

  -- ONE PART MORE: element j's is lent, and comes back renewed
  pub where_more : (only : Option ℕ) (first j : ℕ) → first ≤ j → j < length M
      → let v = moved_where L M a n t (record { only = only; first = first; last = j }) u in let at = counts (take j M) a n in
      let q = element M j in let k = count_in q a n in
      take at v ++ (renewed q a n (takes L only) (in_tray L a n t) (take k (drop at v)) ++ drop k (drop at v))
      ≡ moved_where L M a n t (record { only = only; first = first; last = suc j }) u
  unfolding moved_where
  where_more only first j l h =
      let f : ℕ → ℕ = λ x. cond (takes L only x && within M first j x) (in_tray L a n t x) (in_tray M a n u x) in
      let v = tray M a n f in
      let at = counts (take j M) a n in
      let q = element M j in
      let k = count_in q a n in
      let g : ℕ → ℕ = λ x. cond (takes L only x) (in_tray L a n t x) (f x) in
      let new : renewed q a n (takes L only) (in_tray L a n t) (take k (drop at v)) ≡ gathered q a n g =
      ap (renewed q a n (takes L only) (in_tray L a n t)) (tray_part M a n j h f) ∙ renewed_gathered q a n (takes L only) (in_tray L a n t) f in
      ap (λ (part : List ℕ). take at v ++ (part ++ drop k (drop at v))) new
      ∙ tray_put M a n j h once f g
      ∙ tray_ext M a n _ _ (λ x b e _. rw (within_more M x (once x b e) first j l) (nested (takes L only x) (q x) (within M first j x) _ _))

  -- ALL is the move
  pub where_all : moved_where L M a n t (record { only = None; first = 0; last = length M }) u ≡ moved L M a n t
  unfolding moved_where moved
  where_all = tray_ext M a n _ _ (λ x b e _. rw (within_all M x (once x b e)) refl)

  -- ONE ELEMENT OF EACH is the pair move
  pub where_pair : (i j : ℕ) → moved_where L M a n t (record { only = Some i; first = j; last = j + 1 }) u ≡ pair_moved L M a n t i j u
  unfolding moved_where pair_moved
  where_pair i j =
      let one : (x : ℕ) → times M x ≡ 1 → within M j (j + 1) x ≡ element M j x =
      λ x o. ap (λ (k : ℕ). within M j k x) (add-one j) ∙ within_more M x o j j (omega arith) ∙ rw (within_none M j x) (or-false (element M j x)) in
      tray_ext M a n _ _ (λ x b e _. rw (one x (once x b e)) refl)
