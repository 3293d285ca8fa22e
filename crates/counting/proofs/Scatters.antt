-- Putting packed bytes back, and how that and gathering undo one another. Assumes nothing.
use mathlib.Core.Path.{◌≡◌, refl, sym, ap, ◌∙◌, subst}
use mathlib.Core.Bool.{Bool, true, false, ◌&&◌, cond, true≢false}
use mathlib.Core.List.{List, foldl}
use Prim.Native.Nat.{ℕ, ◌+◌, ◌-◌, ◌≤◌, ◌<◌}
use native.Mathlib.Nat.{add-sub_cancel_left}
use native.Mathlib.Omega.{arith}
use lib.ListN.{length, get_or}
use lib.Seq.{ext_get_or}
use Rattle.counting.specs.Count.{count_in}
use Rattle.counting.specs.Gather.{tabulated, in_file, gathered, scattered_byte, scattered}
use Rattle.counting.specs.Elements.{Elements, element, times, first_of, Partition}
use Rattle.counting.specs.Trays.{scattered_all, EachElement}
use Rattle.counting.proofs.Cases.{by_test, cond_same}
use Rattle.counting.proofs.Nths.{rank_onto}
use Rattle.counting.proofs.Gathers.{length_tabulated, tabulated_ext, in_file_tabulated, tabulated_whole, length_gathered, gathered_ext, get_or_gathered}
use Rattle.counting.proofs.Elements.{first_lt, first_has}
use Rattle.counting.proofs.Folds.{kept, reached}

module _ (p : ℕ → Bool) (a n : ℕ) where
  pub length_scattered : (packed file : List ℕ) → length (scattered p a n packed file) ≡ n
  unfolding scattered
  length_scattered packed file = length_tabulated a n _

  -- the byte of x after a scatter
  pub scattered_at : (packed file : List ℕ) (x : ℕ) → a ≤ x → x < a + n → in_file a (scattered p a n packed file) x ≡ scattered_byte p a packed file x
  unfolding scattered
  scattered_at packed file x h k = in_file_tabulated a n _ x h k

  -- scattering what was just gathered changes nothing
  pub scatter_gather : (file : List ℕ) → length file ≡ n → scattered p a n (gathered p a n (in_file a file)) file ≡ file
  unfolding scattered
  scatter_gather file e =
      tabulated_ext a n _ _ (λ x h k. by_test (p x) (λ t. rw t (get_or_gathered p a n (in_file a file) x h k t)) (λ t. rw t)) ∙ tabulated_whole a n file e

  -- gathering what was just scattered gives the packed bytes back
  pub gather_scatter : (packed file : List ℕ) → length packed ≡ count_in p a n → gathered p a n (in_file a (scattered p a n packed file)) ≡ packed
  unfolding count_in
  gather_scatter packed file e =
      let f : ℕ → ℕ = λ x. get_or packed (count_in p a (x - a)) 0 in
      gathered_ext p a n _ f (λ x h k t. scattered_at packed file x h k ∙ rw t)
      ∙ ext_get_or 0 (gathered p a n f) packed (length_gathered p a n f ∙ sym e) (λ i h.
      let r = rank_onto (λ y. p (a + y)) n i (rw (length_gathered p a n f) at h) in
      let y = r.0 in
      subst (λ (j : ℕ). get_or (gathered p a n f) j 0 ≡ get_or packed j 0) (ap (count_in p a) (add-sub_cancel_left a y) ∙ r.3)
      (get_or_gathered p a n f (a + y) (omega arith) (omega (arith, r.1)) r.2))

  -- of two scatters to the same test the later alone counts
  pub scatter_scatter : (packed packed' file : List ℕ) → scattered p a n packed' (scattered p a n packed file) ≡ scattered p a n packed' file
  unfolding scattered
  scatter_scatter packed packed' file = tabulated_ext a n _ _ (λ x h k. by_test (p x) (λ t. rw t) (λ t. rw t (scattered_at packed file x h k ∙ rw t)))

-- scatters to two tests that never both pass go in either order
pub scatter_comm : (p q : ℕ → Bool) (a n : ℕ) (u v file : List ℕ) → ((x : ℕ) → a ≤ x → x < a + n → (p x && q x) ≡ false)
    → scattered p a n u (scattered q a n v file) ≡ scattered q a n v (scattered p a n u file)
unfolding scattered
scatter_comm p q a n u v file apart =
    tabulated_ext a n _ _ (λ x h k.
    ap (cond (p x) _) (scattered_at q a n v file x h k) ∙ swap (p x) (q x) _ _ _ (apart x h k) ∙ sym (ap (cond (q x) _) (scattered_at p a n u file x h k)))
  where
    swap : (s t : Bool) (b c d : ℕ) → (s && t) ≡ false → cond s b (cond t c d) ≡ cond t c (cond s b d)
    swap true true b c d h = absurd (true≢false h)
    swap true false b c d h = refl
    swap false t b c d h = refl

-- ---- every element's bytes put back
module _ (L : Elements) (a n : ℕ) (f : ℕ → ℕ) where
  abbrev put_back : List ℕ → ℕ → List ℕ
  put_back file i = scattered (element L i) a n (gathered (element L i) a n f) file

  -- the byte of x after element i's bytes are
  put_back_at : (i : ℕ) (file : List ℕ) (x : ℕ) → a ≤ x → x < a + n → in_file a (put_back file i) x ≡ cond (element L i x) (f x) (in_file a file x)
  put_back_at i file x h k =
      scattered_at (element L i) a n _ file x h k ∙ by_test (element L i x) (λ e. rw e (get_or_gathered (element L i) a n f x h k e)) (λ e. rw e)

  -- SCATTERING EVERY ELEMENT, in any order and each at least once, into whatever the file buffer held, gives the whole window
  pub scattered_all_lem : Partition L a n → (elements : List ℕ) → EachElement L elements → (file : List ℕ) → length file ≡ n
      → scattered_all L a n f elements file ≡ tabulated a n f
  unfolding scattered_all
  scattered_all_lem once elements each file long =
      let whole = foldl put_back file elements in
      sym (tabulated_whole a n whole (kept put_back (λ u. length u ≡ n) (λ u i _. length_scattered (element L i) a n _ u) elements file long))
      ∙ tabulated_ext a n (in_file a whole) f (λ x h k.
      let some : 1 ≤ times L x = omega (arith, once x h k) in
      reached put_back (λ u. in_file a u x ≡ f x) (λ u i d. put_back_at i u x h k ∙ cond_same (element L i x) d)
      (first_of L x) (λ u. put_back_at (first_of L x) u x h k ∙ rw (first_has L x some)) elements file (each (first_of L x) (first_lt L x some)))
