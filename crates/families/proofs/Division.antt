-- One family's segments by a division, in place of the search over them. Assumes nothing.
use mathlib.Core.Path.{◌≡◌, refl, sym, ap, ap₂, ◌∙◌}
use mathlib.Core.Bool.{Bool, true, false, ◌&&◌, cond, or-false, and-false, and-true, and_assoc}
use mathlib.Core.Logic.{inl, inr, ⊎_elim}
use Prim.Native.Nat.{ℕ, zero, suc, ◌+◌, ◌-◌, ◌*◌, ◌/◌, ◌%◌, ◌≤◌, ◌<◌, min}
use native.Mathlib.Nat.{add-zero, zero-add, zero-mul, div-zero, mod-zero, div-add-mod', mod-lt, suc-mul, min-eq_left, min-eq_right, le-div_iff_mul-le, mul-le-mul_right, add-sub_cancel_left}
use native.Mathlib.Omega.{arith}
use lib.Arith.{digits_div, digits_mod}
use lib.Dec.{leb, ltb}
use borrow.Author.Tests.{leb-true, le-leb, lt-leb, lt-ltb, le-ltb}
use Rattle.counting.specs.Count.{bit, count_below, count_in}
use Rattle.counting.proofs.Cases.{lt_or_le}
use Rattle.counting.proofs.Counts.{count_zero, count_suc, count_ext, count_none, count_window, count_stop, count_cut}
use Rattle.counting.proofs.Periods.{count_turns, count_turns_and}
use Rattle.families.specs.Forest.{any_below, in_segment, in_segments, Stride, last_byte}

-- ---- a search over k
any_none : (p : ℕ → Bool) (n : ℕ) → ((k : ℕ) → k < n → p k ≡ false) → any_below p n ≡ false
unfolding any_below
any_none p zero h = refl
any_none p (suc n) h = rw (any_none p n (λ k l. h k (omega arith)), h n (omega arith)) refl

-- where only q can pass
any_one : (p : ℕ → Bool) (q n : ℕ) → q < n → ((k : ℕ) → k < n → (k ≡ q → ⊥) → p k ≡ false) → any_below p n ≡ p q
unfolding any_below
any_one p q zero l h = absurd (omega arith)
any_one p q (suc n) l h =
    ⊎_elim
    (λ m. rw (any_one p q n m (λ k j d. h k (omega arith) d), h n (omega arith) (λ e. omega arith)) (or-false _))
    (λ m. rw (any_none p n (λ k j. h k (omega arith) (λ e. omega arith))) (ap p (omega arith)))
    (lt_or_le q n)

-- ---- the stride rule: place w of segment k is told apart by a division, also with the stride 0 of one segment
record Digits (s k w : ℕ) : Type 0 where
  pub quotient : (k * s + w) / s ≡ k
  pub remainder : (k * s + w) % s ≡ w

digits : (l r s n k w : ℕ) → Stride l r s n → k < n → w ≤ r - l → Digits s k w
digits l r s n k w (inl e) h m =
    let z : k ≡ 0 = omega arith in
    rw (z, e.1) (record { quotient = div-zero _; remainder = mod-zero _ ∙ rw zero-mul (zero-add w) })
digits l r s n k w (inr e) h m = record { quotient = digits_div k (omega arith); remainder = digits_mod k (omega arith) }

-- ---- x is in a segment
abbrev pub by_division : (l r s n x : ℕ) → Bool
by_division l r s n x = leb l x && (ltb ((x - l) / s) n && leb ((x - l) % s) (r - l))

-- a segment that holds x has x's quotient for its number
segment_is : (l r s n x k : ℕ) → Stride l r s n → k < n → l + k * s ≤ x → x ≤ l + k * s + (r - l) → k ≡ (x - l) / s
segment_is l r s n x k st m a b =
    let D = digits l r s n k (x - (l + k * s)) st m (omega arith) in
    sym D.quotient ∙ ap (λ (y : ℕ). y / s) (omega arith)

not_both : (a b c : Bool) → (a ≡ true → b ≡ true → ⊥) → (a && (b && c)) ≡ false
not_both true true c h = absurd (h refl refl)
not_both true false c h = refl
not_both false b c h = refl

leb_shift : (a w b : ℕ) → leb (a + w) (a + b) ≡ leb w b
leb_shift a w b = ⊎_elim
    (λ l. rw (lt-leb w b l, lt-leb (a + w) (a + b) (omega arith)) refl)
    (λ l. rw (le-leb w b l, le-leb (a + w) (a + b) (omega arith)) refl)
    (lt_or_le b w)

module _ (inner : ℕ → Bool) (l r s n x : ℕ) where
  segment_at : l ≤ x → in_segment inner (l + (x - l) / s * s) (r - l) x ≡ (leb ((x - l) % s) (r - l) && inner ((x - l) % s))
  segment_at h =
      let a = l + (x - l) / s * s in
      let w = (x - l) % s in
      let e : x ≡ a + w = omega (arith, div-add-mod' (x - l) s) in
      let d : x - a ≡ w = omega arith in
      rw (le-leb a x (omega arith)) (rw d (ap (λ (t : Bool). t && inner w) (ap (λ (y : ℕ). leb y (a + (r - l))) e ∙ leb_shift a w (r - l))))

  pub segments_before : x < l → in_segments inner l r s n x ≡ false
  unfolding in_segments
  segments_before h = any_none _ n (λ k m. rw (lt-leb (l + k * s) x (omega arith)) refl)

  pub segments_after : last_byte l r s n < x → in_segments inner l r s n x ≡ false
  unfolding in_segments
  segments_after h = any_none _ n (λ k m. rw (lt-leb x (l + k * s + (r - l)) (omega (arith, mul-le-mul_right {m = k} {n = n - 1} s (omega arith)))) (and-false (leb (l + k * s) x)))

  -- THE SEARCH IS A DIVISION
  pub segments_div : Stride l r s n → in_segments inner l r s n x ≡ (by_division l r s n x && inner ((x - l) % s))
  unfolding in_segments
  segments_div st = ⊎_elim (λ h. segments_before h ∙ rw (lt-leb l x h) refl) (λ h. ⊎_elim (within h) (past h) (lt_or_le ((x - l) / s) n)) (lt_or_le x l)
    where
      other : (k : ℕ) → k < n → (k ≡ (x - l) / s → ⊥) → in_segment inner (l + k * s) (r - l) x ≡ false
      other k m d = not_both _ _ _ (λ a b. d (segment_is l r s n x k st m (leb-true _ _ a) (leb-true _ _ b)))

      within : l ≤ x → (x - l) / s < n → any_below (λ k. in_segment inner (l + k * s) (r - l) x) n ≡ (by_division l r s n x && inner ((x - l) % s))
      within h m = any_one _ ((x - l) / s) n m other ∙ segment_at h ∙ rw (le-leb l x h, lt-ltb ((x - l) / s) n m) refl

      past : l ≤ x → n ≤ (x - l) / s → any_below (λ k. in_segment inner (l + k * s) (r - l) x) n ≡ (by_division l r s n x && inner ((x - l) % s))
      past h m = any_none _ n (λ k j. other k j (λ e. omega arith)) ∙ rw (le-leb l x h, le-ltb ((x - l) / s) n m) refl

-- a family without children
pub leaf_div : (l r s n x : ℕ) → Stride l r s n → in_segments (λ _. true) l r s n x ≡ by_division l r s n x
leaf_div l r s n x st = segments_div (λ _. true) l r s n x st ∙ and-true (by_division l r s n x)

-- ---- how many bytes of the segments lie before x: whole segments, and a part of the next one
abbrev pub whole : (l s n x : ℕ) → ℕ
whole l s n x = min ((x - l) / s) n

abbrev pub part : (l r s n x : ℕ) → ℕ
part l r s n x = cond (ltb ((x - l) / s) n) (min ((x - l) % s) (r - l + 1)) 0

-- from the family's first byte on
module _ (inner : ℕ → Bool) (last s n : ℕ) where
  abbrev strided : ℕ → Bool
  strided y = ltb (y / s) n && (leb (y % s) last && inner (y % s))

  abbrev counted : ℕ → ℕ
  counted z = min (z / s) n * count_below inner (last + 1) + count_below inner (cond (ltb (z / s) n) (min (z % s) (last + 1)) 0)

  -- one segment
  single : n ≡ 1 → s ≡ 0 → (z : ℕ) → count_below strided z ≡ counted z
  single e f z =
      count_ext strided (λ y. leb y last && inner y) z (λ y _. rw (e, f, div-zero y, mod-zero y) refl)
      ∙ count_cut inner last z
      ∙ rw (e, f, div-zero z, mod-zero z) (rw zero-mul (sym (zero-add _)))

  module _ (wide : last < s) where
    turn : (k y : ℕ) → k < n → y < s → strided (k * s + y) ≡ (leb y last && inner y)
    turn k y h m = rw (digits_div k m, digits_mod k m, lt-ltb k n h) refl

    one_segment : count_below (λ y. leb y last && inner y) s ≡ count_below inner (last + 1)
    one_segment = count_cut inner last s ∙ ap (count_below inner) (min-eq_right {n = last + 1} {m = s} (omega arith))

    inside : (z : ℕ) → z / s < n → count_below strided z ≡ counted z
    inside z h =
        ap (count_below strided) (sym (div-add-mod' z s))
        ∙ count_turns_and strided (λ y. leb y last && inner y) s n turn (z / s) (z % s) h (omega (arith, mod-lt z {m = s} (omega arith)))
        ∙ rw (min-eq_left {n = z / s} {m = n} (omega arith), lt-ltb (z / s) n h) (ap₂ (λ (a b : ℕ). z / s * a + b) one_segment (count_cut inner last (z % s)))

    beyond : (z : ℕ) → n ≤ z / s → count_below strided z ≡ counted z
    beyond z h =
        count_stop strided (n * s) z ((le-div_iff_mul-le (omega arith)).0 h) (λ y l. rw (le-ltb (y / s) n ((le-div_iff_mul-le (omega arith)).1 l)) refl)
        ∙ count_turns strided (λ y. leb y last && inner y) s n turn n (omega arith)
        ∙ rw (min-eq_right {n = n} {m = z / s} h, le-ltb (z / s) n h, count_zero inner) (rw add-zero (ap (λ (a : ℕ). n * a) one_segment))

  strided_count : (l r z : ℕ) → last ≡ r - l → Stride l r s n → count_below strided z ≡ counted z
  strided_count l r z q (inl e) = single e.0 e.1 z
  strided_count l r z q (inr e) = ⊎_elim (inside (omega arith) z) (beyond (omega arith) z) (lt_or_le (z / s) n)

module _ (inner : ℕ → Bool) (l r s n x : ℕ) (st : Stride l r s n) where
  seen_from_l : (y : ℕ) → in_segments inner l r s n (l + y) ≡ strided inner (r - l) s n y
  seen_from_l y =
      segments_div inner l r s n (l + y) st
      ∙ rw (le-leb l (l + y) (omega arith), add-sub_cancel_left l y) (and_assoc (ltb (y / s) n) (leb (y % s) (r - l)) (inner (y % s)))

  -- THE COUNT, for whatever is selected inside a segment
  pub segments_count : count_below (in_segments inner l r s n) x ≡ whole l s n x * count_below inner (r - l + 1) + count_below inner (part l r s n x)
  unfolding count_in
  segments_count = strided_is ∙ strided_count inner (r - l) s n l r (x - l) refl st
    where
      strided_is : count_below (in_segments inner l r s n) x ≡ count_below (strided inner (r - l) s n) (x - l)
      strided_is = ⊎_elim
          (λ h.
          let z : x - l ≡ 0 = omega arith in
          count_none _ x (λ y m. segments_before inner l r s n y (omega arith)) ∙ rw z (sym (count_zero _)))
          (λ h.
          sym (count_window _ l x h)
          ∙ rw (count_none _ l (λ y m. segments_before inner l r s n y m)) (zero-add _)
          ∙ count_ext _ _ (x - l) (λ y _. seen_from_l y))
          (lt_or_le x l)

-- ---- place w of segment k: what is selected there, and how many before it
module _ (inner : ℕ → Bool) (l r s n k w : ℕ) (st : Stride l r s n) (h : k < n) (m : w ≤ r - l) where
  from_l : l + k * s + w - l ≡ k * s + w
  from_l = omega arith

  pub segments_at : in_segments inner l r s n (l + k * s + w) ≡ inner w
  segments_at =
      let D = digits l r s n k w st h m in
      segments_div inner l r s n (l + k * s + w) st
      ∙ rw (le-leb l (l + k * s + w) (omega arith), from_l, D.quotient, D.remainder, lt-ltb k n h, le-leb w (r - l) m) refl

  pub count_at : count_below (in_segments inner l r s n) (l + k * s + w) ≡ k * count_below inner (r - l + 1) + count_below inner w
  count_at =
      let D = digits l r s n k w st h m in
      segments_count inner l r s n (l + k * s + w) st
      ∙ rw (from_l, D.quotient, D.remainder, lt-ltb k n h, min-eq_left {n = k} {m = n} (omega arith), min-eq_left {n = w} {m = r - l + 1} (omega arith)) refl

-- past the last byte every segment counts whole
pub segments_full : (inner : ℕ → Bool) (l r s n x : ℕ) → Stride l r s n → 1 ≤ n → last_byte l r s n < x → count_below (in_segments inner l r s n) x ≡ n * count_below inner (r - l + 1)
segments_full inner l r s n x st some h =
    let last = l + (n - 1) * s + (r - l) in
    let each : count_below inner (r - l + 1) ≡ count_below inner (suc (r - l)) = ap (count_below inner) (omega arith) in
    let turns : suc (n - 1) * count_below inner (r - l + 1) ≡ n * count_below inner (r - l + 1) = ap (λ (m : ℕ). m * count_below inner (r - l + 1)) (omega arith) in
    omega (
      arith,
      count_stop _ (suc last) x h (λ y g. segments_after inner l r s n y g),
      count_suc (in_segments inner l r s n) last,
      ap bit (segments_at inner l r s n (n - 1) (r - l) st (omega arith) (omega arith)),
      count_at inner l r s n (n - 1) (r - l) st (omega arith) (omega arith),
      count_suc inner (r - l),
      suc-mul (n - 1) (count_below inner (r - l + 1)),
    )
