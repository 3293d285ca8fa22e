-- THE TRAY IS THE WINDOW IN ANOTHER ORDER: every number of the window has one place in it, and every place one number. Assumes nothing.
use mathlib.Core.Path.{◌≡◌, refl, sym, ap, ap₂, ◌∙◌, subst}
use mathlib.Core.List.{List, [], ◌∷◌, ◌++◌}
use mathlib.Core.Logic.{⊎_elim}
use Prim.Native.Nat.{ℕ, zero, suc, ◌+◌, ◌-◌, ◌≤◌, ◌<◌}
use native.Mathlib.Nat.{add-sub_cancel_left}
use native.Mathlib.Omega.{arith}
use lib.ListN.{length, get_or, length-append, get_or-append, get_or-eq_default}
use lib.Seq.{get_or-append-add, ext_get_or}
use Rattle.counting.specs.Count.{count_in}
use Rattle.counting.specs.Gather.{gathered}
use Rattle.counting.specs.Elements.{Elements, times, Partition}
use Rattle.counting.specs.Trays.{counts, tray, tray_place, in_tray}
use Rattle.counting.proofs.Cases.{by_test, lt_or_le}
use Rattle.counting.proofs.Counts.{count_suc, count_in_none, count_in_past}
use Rattle.counting.proofs.Nths.{rank_onto}
use Rattle.counting.proofs.Gathers.{length_gathered, gathered_ext, get_or_gathered}

-- ---- how long a tray is
pub length_tray : (L : Elements) (a n : ℕ) (f : ℕ → ℕ) → length (tray L a n f) ≡ counts L a n
unfolding tray counts
length_tray [] a n f = refl
length_tray (p ∷ L) a n f = omega (arith, length-append (gathered p a n f) (tray L a n f), length_gathered p a n f, length_tray L a n f)

counts_none : (L : Elements) (a : ℕ) → counts L a 0 ≡ 0
unfolding counts
counts_none [] a = refl
counts_none (p ∷ L) a = omega (arith, count_in_none p a, counts_none L a)

-- a window that is longer by one has that number as often as there are elements that have it
counts_more : (L : Elements) (a n : ℕ) → counts L a (suc n) ≡ counts L a n + times L (a + n)
unfolding counts times count_in
counts_more [] a n = refl
counts_more (p ∷ L) a n = omega (arith, count_suc (λ y. p (a + y)) n, counts_more L a n)

-- THE ELEMENTS' COUNTS sum to the window's length
pub counts_all : (L : Elements) (a n : ℕ) → Partition L a n → counts L a n ≡ n
counts_all L a zero once = counts_none L a
counts_all L a (suc n) once = omega (arith, counts_more L a n, counts_all L a n (λ x u v. once x u (omega arith)), once (a + n) (omega arith) (omega arith))

-- ---- what stands where
-- trays of bytes that agree on what the elements have of the window
pub tray_ext : (L : Elements) (a n : ℕ) (f g : ℕ → ℕ) → ((x : ℕ) → a ≤ x → x < a + n → 1 ≤ times L x → f x ≡ g x) → tray L a n f ≡ tray L a n g
unfolding tray times
tray_ext [] a n f g h = refl
tray_ext (p ∷ L) a n f g h =
    ap₂ (λ (s t : List ℕ). s ++ t) (gathered_ext p a n f g (λ x u v e. h x u v (rw e (omega arith)))) (tray_ext L a n f g (λ x u v t. h x u v (omega arith)))

get_or_tray : (L : Elements) (a n : ℕ) (f : ℕ → ℕ) (x : ℕ) → a ≤ x → x < a + n → 1 ≤ times L x → in_tray L a n (tray L a n f) x ≡ f x
unfolding tray times tray_place
get_or_tray [] a n f x h k t = absurd (omega arith)
get_or_tray (p ∷ L) a n f x h k t =
    let own = gathered p a n f in
    by_test (p x)
    (λ e.
    let before : count_in p a (x - a) < length own = omega (arith, length_gathered p a n f, count_in_past p a n x h k e) in
    rw e (get_or-append own (tray L a n f) 0 (count_in p a (x - a)) before ∙ get_or_gathered p a n f x h k e))
    (λ e. rw (e, ← length_gathered p a n f) (get_or-append-add own (tray L a n f) (tray_place L a n x) 0 ∙ get_or_tray L a n f x h k (omega (arith, rw e at t))))

place_onto : (L : Elements) (a n y : ℕ) → ((x : ℕ) → a ≤ x → x < a + n → times L x ≤ 1) → y < counts L a n
    → (x : ℕ) × (a ≤ x) × (x < a + n) × (1 ≤ times L x) × (tray_place L a n x ≡ y)
unfolding times counts tray_place count_in
place_onto [] a n y once h = absurd (omega arith)
place_onto (p ∷ L) a n y once h = ⊎_elim
    (λ l.
    let r = rank_onto (λ z. p (a + z)) n y l in
    let x = a + r.0 in
    (x, omega arith, omega (arith, r.1), rw r.2 (omega arith), rw r.2 (ap (count_in p a) (add-sub_cancel_left a r.0) ∙ r.3)))
    (λ l.
    let r = place_onto L a n (y - count_in p a n) (λ x u v. omega (arith, once x u v)) (omega arith) in
    let x = r.0 in
    by_test (p x)
    (λ e. absurd (omega (arith, r.3, rw e at (once x r.1 r.2))))
    (λ e. (x, r.1, r.2, omega (arith, r.3), rw e (omega (arith, r.4)))))
    (lt_or_le y (count_in p a n))

-- ---- elements that share the window out
module _ (L : Elements) (a n : ℕ) (once : Partition L a n) where
  pub tray_length : (f : ℕ → ℕ) → length (tray L a n f) ≡ n
  tray_length f = length_tray L a n f ∙ counts_all L a n once

  -- THE BYTE OF x in the tray of f is f x
  pub tray_at : (f : ℕ → ℕ) (x : ℕ) → a ≤ x → x < a + n → in_tray L a n (tray L a n f) x ≡ f x
  tray_at f x h k = get_or_tray L a n f x h k (omega (arith, once x h k))

  -- the places are below n: past the end of a tray of ones there is no one
  pub place_within : (x : ℕ) → a ≤ x → x < a + n → tray_place L a n x < n
  place_within x h k = ⊎_elim
      (λ l. l)
      (λ l.
      let ones = tray L a n (λ _. 1) in
      absurd (omega (arith, tray_at (λ _. 1) x h k, get_or-eq_default ones 0 {n = tray_place L a n x} (omega (arith, tray_length (λ _. 1))))))
      (lt_or_le (tray_place L a n x) n)

  -- no two numbers have one place: the tray of the numbers themselves holds one number there
  pub place_injective : (x y : ℕ) → a ≤ x → x < a + n → a ≤ y → y < a + n → tray_place L a n x ≡ tray_place L a n y → x ≡ y
  place_injective x y hx kx hy ky e = sym (tray_at (λ z. z) x hx kx) ∙ ap (λ (i : ℕ). get_or (tray L a n (λ z. z)) i 0) e ∙ tray_at (λ z. z) y hy ky

  -- and every place below n is some number's
  pub place_surjective : (y : ℕ) → y < n → (x : ℕ) × (a ≤ x) × (x < a + n) × (tray_place L a n x ≡ y)
  place_surjective y h =
      let r = place_onto L a n y (λ x u v. omega (arith, once x u v)) (omega (arith, counts_all L a n once)) in
      (r.0, r.1, r.2, r.4)

  -- two lists of the window's length with the same byte for each number are one
  pub tray_only : (t u : List ℕ) → length t ≡ n → length u ≡ n → ((x : ℕ) → a ≤ x → x < a + n → in_tray L a n t x ≡ in_tray L a n u x) → t ≡ u
  tray_only t u lt lu same =
      ext_get_or 0 t u (lt ∙ sym lu) (λ i h.
      let r = place_surjective i (omega arith) in
      subst (λ (y : ℕ). get_or t y 0 ≡ get_or u y 0) r.3 (same r.0 r.1 r.2))

  -- EVERY LIST of the window's length is a tray: that of the bytes it has
  pub tray_of : (t : List ℕ) → length t ≡ n → tray L a n (in_tray L a n t) ≡ t
  tray_of t l = tray_only _ t (tray_length _) l (tray_at (in_tray L a n t))
