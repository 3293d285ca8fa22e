-- The laws of runs: how they are put together, and that they are the maximal ones and the only such list. Assumes nothing.
use mathlib.Core.Path.{◌≡◌, refl, sym, ap, ap₂, ◌∙◌, subst}
use mathlib.Core.Bool.{Bool, true, false, ◌&&◌, ◌||◌, cond, and-false}
use mathlib.Core.List.{List, [], ◌∷◌}
use mathlib.Core.Logic.{◌⊎◌, ◌↔◌, inl, inr, ⊎_elim}
use Prim.Native.Nat.{ℕ, zero, suc, ◌+◌, ◌-◌, ◌≤◌, ◌<◌}
use native.Mathlib.Nat.{add-zero, zero-add, suc-add, add_assoc, add-sub_cancel_left}
use native.Mathlib.Omega.{arith}
use lib.Dec.{leb, ltb}
use borrow.Author.Tests.{eq-eqb, ne_eqb, le-leb, lt-leb, lt-ltb, le-ltb}
use Rattle.counting.specs.Runs.{Run, glue, runs_of, joined, covers, Spaced, Maximal}
use Rattle.counting.proofs.Cases.{by_test, lt_or_le, same_or_not}

-- ---- glue: its two cases, and two runs in front of later ones
pub glue_touch : (s m : ℕ) (q : Run) (rs : List Run) → s + m ≡ q.0 → glue s m (q ∷ rs) ≡ (s, m + q.1) ∷ rs
unfolding glue
glue_touch s m q rs e = rw (eq-eqb (s + m) q.0 e)

pub glue_apart : (s m : ℕ) (q : Run) (rs : List Run) → (s + m ≡ q.0 → ⊥) → glue s m (q ∷ rs) ≡ (s, m) ∷ (q ∷ rs)
unfolding glue
glue_apart s m q rs e = rw (ne_eqb (s + m) q.0 e)

pub glue_cases : (s m : ℕ) (q : Run) (rs : List Run) (C : List Run → Type 0)
    → (s + m ≡ q.0 → C ((s, m + q.1) ∷ rs)) → ((s + m ≡ q.0 → ⊥) → C ((s, m) ∷ (q ∷ rs))) → C (glue s m (q ∷ rs))
glue_cases s m q rs C touch apart = ⊎_elim (λ d. subst C (sym (glue_touch s m q rs d)) (touch d)) (λ d. subst C (sym (glue_apart s m q rs d)) (apart d)) (same_or_not (s + m) q.0)

-- two runs that touch may be put together first
pub glue_glue : (s m t k : ℕ) (rs : List Run) → s + m ≡ t → glue s m (glue t k rs) ≡ glue s (m + k) rs
unfolding glue
glue_glue s m t k [] e = glue_touch s m (t, k) [] e
glue_glue s m t k (q ∷ rs) e =
    glue_cases t k q rs (λ l. glue s m l ≡ glue s (m + k) (q ∷ rs))
    (λ d. glue_touch s m (t, k + q.1) rs e ∙ ap (λ (z : ℕ). (s, z) ∷ rs) (sym (add_assoc m k q.1)) ∙ sym (glue_touch s (m + k) q rs (omega arith)))
    (λ d. glue_touch s m (t, k) (q ∷ rs) e ∙ sym (glue_apart s (m + k) q rs (λ z. d (omega arith))))

-- ---- joined: a monoid
pub joined_glue : (s m : ℕ) (rs later : List Run) → joined (glue s m rs) later ≡ glue s m (joined rs later)
unfolding joined glue
joined_glue s m [] later = refl
joined_glue s m (q ∷ rs) later =
    glue_cases s m q rs (λ l. joined l later ≡ glue s m (joined (q ∷ rs) later)) (λ d. sym (glue_glue s m q.0 q.1 (joined rs later) d)) (λ d. refl)

pub joined_assoc : (a b c : List Run) → joined (joined a b) c ≡ joined a (joined b c)
unfolding joined
joined_assoc [] b c = refl
joined_assoc (r ∷ a) b c = joined_glue r.0 r.1 (joined a b) c ∙ ap (glue r.0 r.1) (joined_assoc a b c)

-- ---- runs, one step
pub runs_here : (p : ℕ → Bool) (a n : ℕ) → p a ≡ true → runs_of p a (suc n) ≡ glue a 1 (runs_of p (suc a) n)
unfolding runs_of
runs_here p a n e = rw e

pub runs_skip : (p : ℕ → Bool) (a n : ℕ) → p a ≡ false → runs_of p a (suc n) ≡ runs_of p (suc a) n
unfolding runs_of
runs_skip p a n e = rw e

-- ---- runs: the four laws that counting has too
pub runs_ext : (p q : ℕ → Bool) (a n : ℕ) → ((x : ℕ) → a ≤ x → x < a + n → p x ≡ q x) → runs_of p a n ≡ runs_of q a n
unfolding runs_of
runs_ext p q a zero h = refl
runs_ext p q a (suc n) h =
    ap₂ (λ (t : Bool) (rs : List Run). cond t (glue a 1 rs) rs) (h a (omega arith) (omega arith)) (runs_ext p q (suc a) n (λ x u v. h x (omega arith) (omega arith)))

-- up to a + m, and then n more
pub runs_split : (p : ℕ → Bool) (a m n : ℕ) → runs_of p a (m + n) ≡ joined (runs_of p a m) (runs_of p (a + m) n)
unfolding runs_of joined
runs_split p a zero n = rw (zero-add, add-zero) refl
runs_split p a (suc m) n =
    let ih : runs_of p (suc a) (m + n) ≡ joined (runs_of p (suc a) m) (runs_of p (a + suc m) n) =
    runs_split p (suc a) m n ∙ ap (λ (z : ℕ). joined (runs_of p (suc a) m) (runs_of p z n)) (omega arith) in
    rw (suc-add m n) (by_test (p a) (λ e. rw (e, ih) (sym (joined_glue a 1 (runs_of p (suc a) m) _))) (λ e. rw e ih))

pub runs_none : (p : ℕ → Bool) (a n : ℕ) → ((x : ℕ) → a ≤ x → x < a + n → p x ≡ false) → runs_of p a n ≡ []
unfolding runs_of
runs_none p a zero h = refl
runs_none p a (suc n) h = rw (h a (omega arith) (omega arith)) (runs_none p (suc a) n (λ x u v. h x (omega arith) (omega arith)))

pub runs_all : (p : ℕ → Bool) (a n : ℕ) → ((x : ℕ) → a ≤ x → x < a + suc n → p x ≡ true) → runs_of p a (suc n) ≡ (a, suc n) ∷ []
unfolding runs_of glue
runs_all p a zero h = rw (h a (omega arith) (omega arith)) refl
runs_all p a (suc n) h =
    rw (h a (omega arith) (omega arith)) (rw (runs_all p (suc a) n (λ x u v. h x (omega arith) (omega arith)))
    (glue_touch a 1 (suc a, suc n) [] (omega arith) ∙ ap (λ (z : ℕ). (a, z) ∷ []) (omega arith)))

-- ---- uniqueness: pieces that cover exactly p, put together, are the runs of p
outside : (s m x : ℕ) (t : Bool) → (x < s) ⊎ (s + m ≤ x) → ((leb s x && ltb x (s + m)) || t) ≡ t
outside s m x t (inl h) = rw (lt-leb s x h)
outside s m x t (inr h) = rw (le-ltb x (s + m) h, and-false (leb s x))

inside : (s m x : ℕ) (t : Bool) → s ≤ x → x < s + m → ((leb s x && ltb x (s + m)) || t) ≡ true
inside s m x t h k = rw (le-leb s x h, lt-ltb x (s + m) k)

-- nothing before the first
pub covers_before : (g a e : ℕ) (rs : List Run) → Spaced g a e rs → (x : ℕ) → x < a → covers rs x ≡ false
unfolding covers Spaced
covers_before g a e [] h x l = refl
covers_before g a e (r ∷ rs) h x l = outside r.0 r.1 x (covers rs x) (inl (omega (arith, h.0))) ∙ covers_before g (r.0 + r.1 + g) e rs h.3 x (omega (arith, h.0))

module _ (p : ℕ → Bool) where
  pub pieces_are_runs : (a e : ℕ) (ps : List Run) → a ≤ e → Spaced 0 a e ps → ((x : ℕ) → a ≤ x → x < e → covers ps x ≡ p x) → joined ps [] ≡ runs_of p a (e - a)
  unfolding joined covers Spaced
  pieces_are_runs a e [] l h c = sym (runs_none p a (e - a) (λ x u v. sym (c x u (omega arith))))
  pieces_are_runs a e (r ∷ ps) l h c =
      let s = r.0 in
      let m = r.1 in
      let h0 : a ≤ s = h.0 in
      let h1 : 0 < m = h.1 in
      let h2 : s + m ≤ e = h.2 in
      let ih : joined ps [] ≡ runs_of p (s + m) (e - (s + m)) = pieces_are_runs (s + m) e ps h2 (rw add-zero at h.3)
      (λ x u v. sym (outside s m x (covers ps x) (inr u)) ∙ c x (omega arith) v) in
      let none : runs_of p a (s - a) ≡ [] = runs_none p a (s - a) (λ x u v.
      sym (c x u (omega arith)) ∙ outside s m x (covers ps x) (inl (omega arith)) ∙ covers_before 0 (s + m + 0) e ps h.3 x (omega arith)) in
      let all : runs_of p s (suc (m - 1)) ≡ (s, suc (m - 1)) ∷ [] = runs_all p s (m - 1) (λ x u v. sym (c x (omega arith) (omega arith)) ∙ inside s m x (covers ps x) u (omega arith)) in
      let mm : suc (m - 1) ≡ m = omega arith in
      let one : runs_of p s m ≡ (s, m) ∷ [] = rw mm at all in
      ap (glue s m) ih
      ∙ sym (
      ap (runs_of p a) (let z : e - a ≡ (s - a) + (m + (e - (s + m))) = omega arith in z)
      ∙ runs_split p a (s - a) (m + (e - (s + m)))
      ∙ rw none (ap (λ (z : ℕ). runs_of p z (m + (e - (s + m)))) (let z : a + (s - a) ≡ s = omega arith in z)
      ∙ runs_split p s m (e - (s + m)) ∙ rw one refl))

-- runs that stand apart are put together already
pub apart_joined : (a e : ℕ) (ps : List Run) → Spaced 1 a e ps → joined ps [] ≡ ps
unfolding joined Spaced glue
apart_joined a e [] h = refl
apart_joined a e (r ∷ []) h = refl
apart_joined a e (r ∷ (q ∷ ps)) h =
    ap (glue r.0 r.1) (apart_joined (r.0 + r.1 + 1) e (q ∷ ps) h.3) ∙ glue_apart r.0 r.1 q ps (λ d. omega (arith, h.3.0))

-- what stands so far on and so far apart also stands nearer on and nearer together
nearer : (f g a b e : ℕ) (ps : List Run) → f ≤ g → a ≤ b → Spaced g b e ps → Spaced f a e ps
unfolding Spaced
nearer f g a b e [] k l h = tt
nearer f g a b e (r ∷ ps) k l h = (omega (arith, h.0), h.1, h.2, nearer f g (r.0 + r.1 + f) (r.0 + r.1 + g) e ps k (omega arith) h.3)

-- THE ONLY LIST: runs that stand apart and cover exactly p are the runs of p
pub runs_unique : (p : ℕ → Bool) (a e : ℕ) (ps : List Run) → a ≤ e → Spaced 1 a e ps → ((x : ℕ) → a ≤ x → x < e → covers ps x ≡ p x) → ps ≡ runs_of p a (e - a)
runs_unique p a e ps l h c = sym (apart_joined a e ps h) ∙ pieces_are_runs p a e ps l (nearer 0 1 a a e ps (omega arith) (omega arith) h) c

-- ---- what the runs are: inside the window, ascending, none empty, never adjacent
glue_spaced : (s m b e : ℕ) (rs : List Run) → 0 < m → s + m ≤ b → b ≤ e → Spaced 1 b e rs → Spaced 1 s e (glue s m rs)
unfolding Spaced glue
glue_spaced s m b e [] l j k h = (omega arith, l, omega arith, tt)
glue_spaced s m b e (q ∷ rs) l j k h =
    glue_cases s m q rs (Spaced 1 s e)
    (λ d. (omega arith, omega arith, omega (arith, h.2), subst (λ (z : ℕ). Spaced 1 z e rs) (omega arith) h.3))
    (λ d. (omega arith, l, omega arith, (omega (arith, h.0), h.1, h.2, h.3)))

-- a run in front of runs that start past its end
pub glue_far : (s m b e : ℕ) (rs : List Run) → s + m < b → Spaced 1 b e rs → glue s m rs ≡ (s, m) ∷ rs
unfolding glue Spaced
glue_far s m b e [] l h = refl
glue_far s m b e (q ∷ rs) l h = glue_apart s m q rs (λ d. omega (arith, h.0))

pub runs_spaced : (p : ℕ → Bool) (a n : ℕ) → Spaced 1 a (a + n) (runs_of p a n)
unfolding Spaced runs_of
runs_spaced p a zero = tt
runs_spaced p a (suc n) =
    let ih : Spaced 1 (suc a) (a + suc n) (runs_of p (suc a) n) = subst (λ (z : ℕ). Spaced 1 (suc a) z (runs_of p (suc a) n)) (omega arith) (runs_spaced p (suc a) n) in
    by_test (p a)
    (λ e. rw e (glue_spaced a 1 (suc a) (a + suc n) (runs_of p (suc a) n) (omega arith) (omega arith) (omega arith) ih))
    (λ e. rw e (nearer 1 1 a (suc a) (a + suc n) (runs_of p (suc a) n) (omega arith) (omega arith) ih))

-- ---- they have exactly the numbers of the window that pass
in_two : (s m k x : ℕ) (t : Bool) → ((leb s x && ltb x (s + (m + k))) || t) ≡ ((leb s x && ltb x (s + m)) || ((leb (s + m) x && ltb x (s + m + k)) || t))
in_two s m k x t = ⊎_elim
    (λ h. outside s (m + k) x t (inl h) ∙ sym (outside s m x _ (inl h) ∙ outside (s + m) k x t (inl (omega arith))))
    (λ h. ⊎_elim
    (λ i. inside s (m + k) x t h (omega arith) ∙ sym (inside s m x _ h i))
    (λ i. ⊎_elim
    (λ j. inside s (m + k) x t h (omega arith) ∙ sym (outside s m x _ (inr i) ∙ inside (s + m) k x t i j))
    (λ j. outside s (m + k) x t (inr (omega arith)) ∙ sym (outside s m x _ (inr i) ∙ outside (s + m) k x t (inr j)))
    (lt_or_le x (s + m + k)))
    (lt_or_le x (s + m)))
    (lt_or_le x s)

pub covers_glue : (s m : ℕ) (rs : List Run) (x : ℕ) → covers (glue s m rs) x ≡ ((leb s x && ltb x (s + m)) || covers rs x)
unfolding covers glue
covers_glue s m [] x = refl
covers_glue s m (q ∷ rs) x =
    glue_cases s m q rs (λ l. covers l x ≡ ((leb s x && ltb x (s + m)) || covers (q ∷ rs) x))
    (λ d. in_two s m q.1 x (covers rs x) ∙ ap (λ (z : ℕ). (leb s x && ltb x (s + m)) || ((leb z x && ltb x (z + q.1)) || covers rs x)) d)
    (λ d. refl)

pub runs_cover : (p : ℕ → Bool) (a n x : ℕ) → a ≤ x → x < a + n → covers (runs_of p a n) x ≡ p x
runs_cover p a zero x u v = absurd (omega arith)
runs_cover p a (suc n) x u v =
    let rs = runs_of p (suc a) n in
    let before : x ≡ a → covers rs x ≡ false = λ d. covers_before 1 (suc a) (suc a + n) rs (runs_spaced p (suc a) n) x (omega arith) in
    let after : (x ≡ a → ⊥) → covers rs x ≡ p x = λ d. runs_cover p (suc a) n x (omega arith) (omega arith) in
    by_test (p a)
    (λ e. rw (runs_here p a n e) (covers_glue a 1 rs x ∙ ⊎_elim
    (λ d. inside a 1 x (covers rs x) u (omega arith) ∙ sym (ap p d ∙ e))
    (λ d. outside a 1 x (covers rs x) (inr (omega arith)) ∙ after d)
    (same_or_not x a)))
    (λ e. rw (runs_skip p a n e) (⊎_elim (λ d. before d ∙ sym (ap p d ∙ e)) after (same_or_not x a)))

-- ---- each is maximal in the window. `rs` are the runs that are left: they cover what passes from `done` on, and stand from b on;
-- the next, where it is not the window's first number, starts past `done`, so the number before it is not covered
each_maximal : (p : ℕ → Bool) (a e done b : ℕ) (rs : List Run) → a ≤ done → done ≤ b → ((s : ℕ) → b ≤ s → a < s → done < s) → Spaced 1 b e rs
    → ((x : ℕ) → done ≤ x → x < e → covers rs x ≡ p x) → Maximal p a e rs
unfolding Spaced covers Maximal
each_maximal p a e done b [] k l g h c = tt
each_maximal p a e done b (r ∷ rs) k l g h c =
    let s = r.0 in
    let m = r.1 in
    let h0 : b ≤ s = h.0 in
    let h1 : 0 < m = h.1 in
    let h2 : s + m ≤ e = h.2 in
    let none : (x : ℕ) → done ≤ x → x < e → x < s + m + 1 → (x < s) ⊎ (s + m ≤ x) → p x ≡ false =
    λ x u v w o. sym (c x u v) ∙ outside s m x (covers rs x) o ∙ covers_before 1 (s + m + 1) e rs h.3 x w in (
      λ x u v. sym (c x (omega arith) (omega arith)) ∙ inside s m x (covers rs x) u v,
      λ u. let z : done < s = g s h0 u in none (s - 1) (omega arith) (omega arith) (omega arith) (inl (omega arith)),
      λ u. none (s + m) (omega arith) u (omega arith) (inr (omega arith)),
      each_maximal p a e (s + m) (s + m + 1) rs (omega arith) (omega arith) (λ t u v. omega arith) h.3 (λ x u v. sym (outside s m x (covers rs x) (inr u)) ∙ c x (omega arith) v),
    )

pub runs_maximal : (p : ℕ → Bool) (a n : ℕ) → Maximal p a (a + n) (runs_of p a n)
runs_maximal p a n = each_maximal p a (a + n) a a (runs_of p a n) (omega arith) (omega arith) (λ s u v. v) (runs_spaced p a n) (runs_cover p a n)

-- WHAT THE RUNS ARE, in one statement: of all lists of runs the one that stands apart in the window, is maximal run by run, and has exactly the numbers that pass
pub runs_exactly : (p : ℕ → Bool) (a n : ℕ) (ps : List Run)
    → (ps ≡ runs_of p a n) ↔ (Spaced 1 a (a + n) ps × Maximal p a (a + n) ps × ((x : ℕ) → a ≤ x → x < a + n → covers ps x ≡ p x))
runs_exactly p a n ps = (
  λ e. rw e (runs_spaced p a n, runs_maximal p a n, runs_cover p a n),
  λ h. runs_unique p a (a + n) ps (omega arith) h.0 h.2 ∙ ap (runs_of p a) (add-sub_cancel_left a n),
)
