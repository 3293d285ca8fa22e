-- The laws of counting. Assumes nothing.
use mathlib.Core.Path.{◌≡◌, refl, sym, ap, ap₂, ◌∙◌}
use mathlib.Core.Bool.{Bool, true, false, ◌&&◌, ◌||◌, true≢false}
use mathlib.Core.Logic.{⊎_elim}
use Prim.Native.Nat.{ℕ, zero, suc, ◌+◌, ◌-◌, ◌≤◌, ◌<◌, min}
use native.Mathlib.Nat.{add-zero, add-suc, add_assoc, min-eq_left, min-eq_right, add-sub_of_le}
use native.Mathlib.Omega.{arith}
use lib.Dec.{leb}
use borrow.Author.Tests.{le-leb, lt-leb}
use Rattle.counting.specs.Count.{bit, count_below, count_in}
use Rattle.counting.proofs.Cases.{lt_or_le}

-- ---- one step
pub count_zero : (p : ℕ → Bool) → count_below p 0 ≡ 0
unfolding count_below
count_zero p = refl

pub count_suc : (p : ℕ → Bool) (x : ℕ) → count_below p (suc x) ≡ count_below p x + bit (p x)
unfolding count_below
count_suc p x = refl

pub count_here : (p : ℕ → Bool) (x : ℕ) → p x ≡ true → count_below p (suc x) ≡ count_below p x + 1
count_here p x e = count_suc p x ∙ rw e refl

pub count_skip : (p : ℕ → Bool) (x : ℕ) → p x ≡ false → count_below p (suc x) ≡ count_below p x
count_skip p x e = count_suc p x ∙ rw e (add-zero _)

pub bit_le : (b : Bool) → bit b ≤ 1
bit_le true = omega arith
bit_le false = omega arith

-- ---- tests that agree below x count alike
pub count_ext : (p q : ℕ → Bool) (x : ℕ) → ((y : ℕ) → y < x → p y ≡ q y) → count_below p x ≡ count_below q x
unfolding count_below
count_ext p q zero h = refl
count_ext p q (suc x) h = ap₂ (λ (a b : ℕ). a + b) (count_ext p q x (λ y l. h y (omega arith))) (ap bit (h x (omega arith)))

-- ---- up to a, and then m more
pub count_split : (p : ℕ → Bool) (a m : ℕ) → count_below p (a + m) ≡ count_below p a + count_in p a m
unfolding count_below count_in
count_split p a zero = simp add-zero
count_split p a (suc m) = rw add-suc (rw (count_split p a m) (add_assoc _ _ _))

-- the same for a window that is given by its two ends
pub count_window : (p : ℕ → Bool) (a b : ℕ) → a ≤ b → count_below p a + count_in p a (b - a) ≡ count_below p b
count_window p a b h = sym (count_split p a (b - a)) ∙ ap (count_below p) (add-sub_of_le h)

-- ---- none, all, and how many at most
pub count_none : (p : ℕ → Bool) (x : ℕ) → ((y : ℕ) → y < x → p y ≡ false) → count_below p x ≡ 0
count_none p zero h = count_zero p
count_none p (suc x) h = count_skip p x (h x (omega arith)) ∙ count_none p x (λ y l. h y (omega arith))

pub count_all : (p : ℕ → Bool) (x : ℕ) → ((y : ℕ) → y < x → p y ≡ true) → count_below p x ≡ x
count_all p zero h = count_zero p
count_all p (suc x) h = omega (arith, count_here p x (h x (omega arith)), count_all p x (λ y l. h y (omega arith)))

pub count_le : (p : ℕ → Bool) (x : ℕ) → count_below p x ≤ x
count_le p zero = omega (arith, count_zero p)
count_le p (suc x) = omega (arith, count_suc p x, count_le p x, bit_le (p x))

pub count_mono : (p : ℕ → Bool) (a b : ℕ) → a ≤ b → count_below p a ≤ count_below p b
count_mono p a b h = omega (arith, count_window p a b h)

-- a number that passes is counted by whatever lies past it
pub count_past : (p : ℕ → Bool) (x b : ℕ) → p x ≡ true → x < b → count_below p x < count_below p b
count_past p x b e h = omega (arith, count_here p x e, count_mono p (suc x) b h)

-- ---- what two tests that never both pass count together
bit_or : (a b : Bool) → (a && b) ≡ false → bit (a || b) ≡ bit a + bit b
bit_or true true e = absurd (true≢false e)
bit_or true false e = refl
bit_or false true e = refl
bit_or false false e = refl

pub count_or : (p q : ℕ → Bool) (x : ℕ) → ((y : ℕ) → y < x → (p y && q y) ≡ false) → count_below (λ y. p y || q y) x ≡ count_below p x + count_below q x
unfolding count_below
count_or p q zero h = refl
count_or p q (suc x) h = omega (arith, count_or p q x (λ y l. h y (omega arith)), bit_or (p x) (q x) (h x (omega arith)))

-- ---- past b nothing passes
pub count_stop : (p : ℕ → Bool) (b x : ℕ) → b ≤ x → ((y : ℕ) → b ≤ y → p y ≡ false) → count_below p x ≡ count_below p b
unfolding count_in
count_stop p b x l h = omega (arith, count_window p b x l, count_none (λ y. p (b + y)) (x - b) (λ y _. h (b + y) (omega arith)))

-- a test with a bound
pub count_cut : (p : ℕ → Bool) (last x : ℕ) → count_below (λ y. leb y last && p y) x ≡ count_below p (min x (last + 1))
count_cut p last x = ⊎_elim beyond before (lt_or_le last x)
  where
    same : (m : ℕ) → m ≤ last + 1 → count_below (λ y. leb y last && p y) m ≡ count_below p m
    same m l = count_ext _ _ m (λ y h. rw (le-leb y last (omega arith)) refl)

    beyond : last < x → count_below (λ y. leb y last && p y) x ≡ count_below p (min x (last + 1))
    beyond l = rw (min-eq_right {n = last + 1} {m = x} (omega arith))
        (count_stop _ (last + 1) x (omega arith) (λ y h. rw (lt-leb y last (omega arith)) refl) ∙ same (last + 1) (omega arith))

    before : x ≤ last → count_below (λ y. leb y last && p y) x ≡ count_below p (min x (last + 1))
    before l = rw (min-eq_left {n = x} {m = last + 1} (omega arith)) (same x (omega arith))

-- ---- windows: a window is a count that starts at its front
pub count_in_split : (p : ℕ → Bool) (a m n : ℕ) → count_in p a (m + n) ≡ count_in p a m + count_in p (a + m) n
count_in_split p a m n =
    let e : a + (m + n) ≡ a + m + n = omega arith in
    omega (arith, count_split p a (m + n), ap (count_below p) e, count_split p (a + m) n, count_split p a m)

pub count_in_none : (p : ℕ → Bool) (a : ℕ) → count_in p a 0 ≡ 0
unfolding count_in
count_in_none p a = count_zero _

pub count_in_front : (p : ℕ → Bool) (a n : ℕ) → count_in p a (suc n) ≡ bit (p a) + count_in p (suc a) n
count_in_front p a n =
    let e : a + suc n ≡ suc a + n = omega arith in
    omega (arith, count_split p a (suc n), ap (count_below p) e, count_split p (suc a) n, count_suc p a)

-- a number of the window that passes is counted by the whole window
pub count_in_past : (p : ℕ → Bool) (a n x : ℕ) → a ≤ x → x < a + n → p x ≡ true → count_in p a (x - a) < count_in p a n
unfolding count_in
count_in_past p a n x h k e = count_past (λ y. p (a + y)) (x - a) n (ap p (add-sub_of_le h) ∙ e) (omega arith)

pub count_in_le : (p : ℕ → Bool) (a n : ℕ) → count_in p a n ≤ n
unfolding count_in
count_in_le p a n = count_le (λ y. p (a + y)) n
