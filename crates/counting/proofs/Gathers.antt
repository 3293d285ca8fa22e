-- Lists made of a window, number by number: all of them, and those that pass. Assumes nothing.
use mathlib.Core.Path.{◌≡◌, refl, sym, ap, ap₂, ◌∙◌}
use mathlib.Core.Bool.{Bool, true, false}
use mathlib.Core.List.{List, [], ◌∷◌, ◌++◌, map}
use Prim.Native.Nat.{ℕ, zero, suc, ◌+◌, ◌-◌, ◌≤◌, ◌<◌}
use native.Mathlib.Nat.{add-zero, zero-add, suc-add, sub-zero, zero-sub, add-sub_of_le, add-sub_cancel_left}
use native.Mathlib.Omega.{arith}
use lib.ListN.{length, get_or, take, drop, length-drop}
use lib.Seq.{ext_get_or, get_or_at, get_or-take, get_or-drop, length-take-le}
use Rattle.counting.specs.Count.{count_in}
use Rattle.counting.specs.Gather.{tabulated, in_file, gathered}
use Rattle.counting.proofs.Cases.{by_test}
use Rattle.counting.proofs.Counts.{count_in_none, count_in_front}

-- ---- all of the window
module _ {A : Type 0} where
  pub length_tabulated : (a n : ℕ) (f : ℕ → A) → length (tabulated a n f) ≡ n
  unfolding tabulated
  length_tabulated a zero f = refl
  length_tabulated a (suc n) f = ap suc (length_tabulated (suc a) n f)

  pub get_or_tabulated : (a n : ℕ) (f : ℕ → A) (k : ℕ) (d : A) → k < n → get_or (tabulated a n f) k d ≡ f (a + k)
  unfolding tabulated
  get_or_tabulated a zero f k d h = absurd (omega arith)
  get_or_tabulated a (suc n) f zero d h = ap f (sym (add-zero a))
  get_or_tabulated a (suc n) f (suc k) d h = get_or_tabulated (suc a) n f k d (omega arith) ∙ ap f (let e : suc a + k ≡ a + suc k = omega arith in e)

  pub tabulated_ext : (a n : ℕ) (f g : ℕ → A) → ((x : ℕ) → a ≤ x → x < a + n → f x ≡ g x) → tabulated a n f ≡ tabulated a n g
  unfolding tabulated
  tabulated_ext a zero f g h = refl
  tabulated_ext a (suc n) f g h =
      ap₂ (λ (v : A) (l : List A). v ∷ l) (h a (omega arith) (omega arith)) (tabulated_ext (suc a) n f g (λ x u v. h x (omega arith) (omega arith)))

  -- one more
  pub tabulated_more : (a n : ℕ) (f : ℕ → A) → tabulated a (suc n) f ≡ tabulated a n f ++ (f (a + n) ∷ [])
  unfolding tabulated
  tabulated_more a zero f = rw add-zero refl
  tabulated_more a (suc n) f = let z : a + suc n ≡ suc a + n = omega arith in rw z (ap (λ (l : List A). f a ∷ l) (tabulated_more (suc a) n f))

  -- a list is what stands at its places
  pub tabulated_list : (l : List A) (d : A) → tabulated 0 (length l) (λ i. get_or l i d) ≡ l
  tabulated_list l d =
      ext_get_or d (tabulated 0 (length l) (λ i. get_or l i d)) l (length_tabulated 0 (length l) _) (λ i h.
      get_or_tabulated 0 (length l) (λ i. get_or l i d) i d (omega (arith, length_tabulated 0 (length l) (λ i. get_or l i d))) ∙ rw zero-add refl)

pub tabulated_map : {A B : Type 0} (g : A → B) (a n : ℕ) (f : ℕ → A) → map g (tabulated a n f) ≡ tabulated a n (λ x. g (f x))
unfolding tabulated
tabulated_map g a zero f = refl
tabulated_map {A} {B} g a (suc n) f = ap (λ (l : List B). g (f a) ∷ l) (tabulated_map g (suc a) n f)

-- a file buffer and the bytes it holds
pub in_file_tabulated : (a n : ℕ) (f : ℕ → ℕ) (x : ℕ) → a ≤ x → x < a + n → in_file a (tabulated a n f) x ≡ f x
in_file_tabulated a n f x h k = get_or_tabulated a n f (x - a) 0 (omega arith) ∙ ap f (add-sub_of_le h)

pub tabulated_whole : (a n : ℕ) (file : List ℕ) → length file ≡ n → tabulated a n (in_file a file) ≡ file
tabulated_whole a n file e =
    ext_get_or 0 (tabulated a n (in_file a file)) file (length_tabulated a n _ ∙ sym e) (λ i h.
    get_or_tabulated a n (in_file a file) i 0 (omega (arith, length_tabulated a n (in_file a file))) ∙ ap (λ (j : ℕ). get_or file j 0) (add-sub_cancel_left a i))

-- a window whose bytes stand in a list one after the other from k on is a part of that list
pub tabulated_part : (x m : ℕ) (f : ℕ → ℕ) (l : List ℕ) (k : ℕ) → k + m ≤ length l → ((y : ℕ) → y < m → f (x + y) ≡ get_or l (k + y) 0)
    → tabulated x m f ≡ take m (drop k l)
tabulated_part x m f l k room same =
    let long : m ≤ length (drop k l) = omega (arith, length-drop k l) in
    ext_get_or 0 (tabulated x m f) (take m (drop k l)) (length_tabulated x m f ∙ sym (length-take-le m (drop k l) long)) (λ y h.
    let less : y < m = omega (arith, length_tabulated x m f) in
    get_or_tabulated x m f y 0 less ∙ same y less ∙ sym (get_or-take m (drop k l) y 0 less ∙ get_or-drop k l y 0))

-- ---- those that pass
pub length_gathered : (p : ℕ → Bool) (a n : ℕ) (f : ℕ → ℕ) → length (gathered p a n f) ≡ count_in p a n
unfolding gathered
length_gathered p a zero f = sym (count_in_none p a)
length_gathered p a (suc n) f =
    rw (count_in_front p a n) (by_test (p a) (λ t. rw t (omega (arith, length_gathered p (suc a) n f))) (λ t. rw t (omega (arith, length_gathered p (suc a) n f))))

pub gathered_ext : (p : ℕ → Bool) (a n : ℕ) (f g : ℕ → ℕ) → ((x : ℕ) → a ≤ x → x < a + n → p x ≡ true → f x ≡ g x) → gathered p a n f ≡ gathered p a n g
unfolding gathered
gathered_ext p a zero f g h = refl
gathered_ext p a (suc n) f g h =
    let ih : gathered p (suc a) n f ≡ gathered p (suc a) n g = gathered_ext p (suc a) n f g (λ x u v. h x (omega arith) (omega arith)) in
    by_test (p a) (λ t. rw (t, ih, h a (omega arith) (omega arith) t)) (λ t. rw (t, ih))

-- up to a + m, and then n more
pub gathered_split : (p : ℕ → Bool) (a m n : ℕ) (f : ℕ → ℕ) → gathered p a (m + n) f ≡ gathered p a m f ++ gathered p (a + m) n f
unfolding gathered
gathered_split p a zero n f = rw (zero-add n, add-zero a)
gathered_split p a (suc m) n f =
    let ih : gathered p (suc a) (m + n) f ≡ gathered p (suc a) m f ++ gathered p (a + suc m) n f =
    gathered_split p (suc a) m n f ∙ ap (λ (z : ℕ). gathered p (suc a) m f ++ gathered p z n f) (omega arith) in
    by_test (p a) (λ t. rw (suc-add m n, t, ih)) (λ t. rw (suc-add m n, t, ih))

gathered_here : (p : ℕ → Bool) (a n : ℕ) (f : ℕ → ℕ) → p a ≡ true → gathered p a (suc n) f ≡ f a ∷ gathered p (suc a) n f
unfolding gathered
gathered_here p a n f e = rw e

-- WHERE x STANDS among them: after as many as pass before it
pub get_or_gathered : (p : ℕ → Bool) (a n : ℕ) (f : ℕ → ℕ) (x : ℕ) → a ≤ x → x < a + n → p x ≡ true → get_or (gathered p a n f) (count_in p a (x - a)) 0 ≡ f x
get_or_gathered p a n f x h l e =
    let k = a + n - suc x in
    let parts : gathered p a n f ≡ gathered p a (x - a) f ++ f x ∷ gathered p (suc x) k f =
    ap (λ (z : ℕ). gathered p a z f) (let z : n ≡ x - a + suc k = omega arith in z)
    ∙ gathered_split p a (x - a) (suc k) f
    ∙ rw (add-sub_of_le h) (ap (λ (l : List ℕ). gathered p a (x - a) f ++ l) (gathered_here p x k f e)) in
    rw parts (get_or_at (gathered p a (x - a) f) (f x) (gathered p (suc x) k f) 0 (count_in p a (x - a)) (length_gathered p a (x - a) f))

-- ---- what is gathered of an empty window, of one that is selected whole, and of one that starts with a gap
pub gathered_none : (p : ℕ → Bool) (x n : ℕ) (f : ℕ → ℕ) → n ≡ 0 → gathered p x n f ≡ []
unfolding gathered
gathered_none p x n f e = rw e refl

pub gathered_all : (p : ℕ → Bool) (x m : ℕ) (f : ℕ → ℕ) → ((y : ℕ) → y < m → p (x + y) ≡ true) → gathered p x m f ≡ tabulated x m f
unfolding gathered tabulated
gathered_all p x zero f h = refl
gathered_all p x (suc m) f h =
    rw (ap p (sym (add-zero x)) ∙ h 0 (omega arith))
    (ap (λ (l : List ℕ). f x ∷ l) (gathered_all p (suc x) m f (λ y l. ap p (let e : suc x + y ≡ x + suc y = omega arith in e) ∙ h (suc y) (omega arith))))

pub gathered_skip : (p : ℕ → Bool) (x d n : ℕ) (f : ℕ → ℕ) → ((y : ℕ) → y < d → p (x + y) ≡ false) → gathered p x n f ≡ gathered p (x + d) (n - d) f
unfolding gathered
gathered_skip p x zero n f h = rw (add-zero x, sub-zero n) refl
gathered_skip p x (suc d) zero f h = rw (zero-sub (suc d)) refl
gathered_skip p x (suc d) (suc n) f h =
    rw (ap p (sym (add-zero x)) ∙ h 0 (omega arith))
    (gathered_skip p (suc x) d n f (λ y l. ap p (let e : suc x + y ≡ x + suc y = omega arith in e) ∙ h (suc y) (omega arith))
    ∙ ap₂ (λ (z m : ℕ). gathered p z m f) (let e : suc x + d ≡ x + suc d = omega arith in e) (let e : n - d ≡ suc n - suc d = omega arith in e))

pub count_in_skip : (p : ℕ → Bool) (x d n : ℕ) → ((y : ℕ) → y < d → p (x + y) ≡ false) → count_in p x n ≡ count_in p (x + d) (n - d)
count_in_skip p x d n h =
    let f : ℕ → ℕ = λ _. 0 in
    sym (length_gathered p x n f) ∙ ap length (gathered_skip p x d n f h) ∙ length_gathered p (x + d) (n - d) f
