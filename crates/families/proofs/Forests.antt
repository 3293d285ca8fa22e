-- Families in a row of siblings: what they select, how many before x, and the y-th. Assumes nothing.
use mathlib.Core.Path.{fun_ext, ◌≡◌, refl, sym, ap₂, ◌∙◌}
use mathlib.Core.Bool.{true, false, or-true, and-false, true≢false}
use mathlib.Core.Logic.{⊎_elim}
use Prim.Native.Nat.{ℕ, zero, suc, ◌+◌, ◌-◌, ◌*◌, ◌/◌, ◌%◌, ◌≤◌, ◌<◌, max}
use native.Mathlib.Nat.{div-lt_iff_lt-mul, div-add-mod', mod-lt, mul-le-mul_right, mul-zero, one-le-mul}
use native.Mathlib.Omega.{arith}
use Rattle.counting.specs.Count.{count_below, nth}
use Rattle.counting.proofs.Cases.{lt_or_le}
use Rattle.counting.proofs.Counts.{count_none, count_all, count_or, count_stop, count_le, count_mono}
use Rattle.counting.proofs.Nths.{Found, nth_is, nth_found}
use Rattle.families.specs.Forest.{Forest, nil, node, is_nil, in_segments, has, inner, last_byte, end_of, size_of, Fits, WF}
use Rattle.families.proofs.Division.{segments_before, segments_after, segments_at, count_at, segments_full}

-- ---- the sheet rules
-- wider bounds
pub wf_wider : {a b c d : ℕ} (F : Forest) → c ≤ a → b ≤ d → WF a b F → WF c d F
unfolding WF
wf_wider nil l m w = tt
wf_wider {a = a} {b = b} {c = c} {d = d} (node l r s n kids rest) p q w = (
  record { some = w.0.some; forward = w.0.forward; stride = w.0.stride; after = omega (arith, w.0.after); inside = omega (arith, w.0.inside) },
  w.1,
  wf_wider {a = last_byte l r s n + 1} rest (omega arith) q w.2,
)

-- .. and with a narrower one, where the families end by it
pub wf_ended : (F : Forest) (from bound b : ℕ) → WF from bound F → end_of F ≤ suc b → WF from b F
unfolding WF end_of
wf_ended nil from bound b w h = tt
wf_ended (node l r s n kids rest) from bound b w h = (
  record { some = w.0.some; forward = w.0.forward; stride = w.0.stride; after = w.0.after; inside = omega arith },
  w.1,
  wf_ended rest _ bound b w.2 (omega arith),
)

-- the rules of a family, of its children and of its younger siblings
pub record Ruled (from bound l r s n : ℕ) (kids rest : Forest) : Type 0 where
  pub fits : Fits from bound l r s n
  pub kids_ok : WF 0 (r - l) kids
  pub rest_ok : WF (last_byte l r s n + 1) bound rest

pub ruled : {a b l r s n : ℕ} {kids rest : Forest} → WF a b (node l r s n kids rest) → Ruled a b l r s n kids rest
unfolding WF
ruled w = record { fits = w.0; kids_ok = w.1; rest_ok = w.2 }

-- ---- where families select nothing
pub has_before : (a b : ℕ) (F : Forest) → WF a b F → (y : ℕ) → y < a → has F y ≡ false
unfolding has WF
has_before a b nil w y h = refl
has_before a b (node l r s n kids rest) w y h =
    rw (segments_before (inner kids) l r s n y (omega (arith, w.0.after))) (has_before (last_byte l r s n + 1) b rest w.2 y (omega (arith, w.0.after)))

pub has_past : (F : Forest) (y : ℕ) → end_of F ≤ y → has F y ≡ false
unfolding has end_of
has_past nil y h = refl
has_past (node l r s n kids rest) y h = rw (segments_after (inner kids) l r s n y (omega arith)) (has_past rest y (omega arith))

-- the end is within the bound
pub end_le : (a b : ℕ) (F : Forest) → WF a b F → end_of F ≤ b + 1
unfolding WF end_of
end_le a b nil w = omega arith
end_le a b (node l r s n kids rest) w = omega (arith, w.0.inside, end_le (last_byte l r s n + 1) b rest w.2)

pub has_after : (a b : ℕ) (F : Forest) → WF a b F → (y : ℕ) → b < y → has F y ≡ false
has_after a b F w y h = has_past F y (omega (arith, end_le a b F w))

-- ---- the size is the count below any number past the end
pub size_at : (F : Forest) (m : ℕ) → end_of F ≤ m → count_below (has F) m ≡ size_of F
unfolding size_of
size_at F m h = count_stop (has F) (end_of F) m h (has_past F)

-- no count is more
pub count_most : (F : Forest) (n : ℕ) → count_below (has F) n ≤ size_of F
count_most F n = omega (arith, count_mono (has F) n (max n (end_of F)) (omega arith), size_at F (max n (end_of F)) (omega arith))

pub size_le : (a b : ℕ) (F : Forest) → WF a b F → size_of F ≤ b + 1
unfolding size_of
size_le a b F w = omega (arith, count_le (has F) (end_of F), end_le a b F w)

-- ---- what is selected inside a segment: all of it without children, and else what they select
pub inner_leaf : (kids : Forest) → is_nil kids ≡ true → inner kids ≡ (λ _. true)
inner_leaf kids e = fun_ext (λ y. rw e refl)

pub inner_kids : (kids : Forest) → is_nil kids ≡ false → inner kids ≡ has kids
inner_kids kids e = fun_ext (λ y. rw e refl)

pub each_leaf : (kids : Forest) (m : ℕ) → is_nil kids ≡ true → count_below (inner kids) m ≡ m
each_leaf kids m e = rw (inner_leaf kids e) (count_all _ m (λ _ _. refl))

pub each_kids : (last : ℕ) (kids : Forest) → WF 0 last kids → is_nil kids ≡ false → count_below (inner kids) (last + 1) ≡ size_of kids
each_kids last kids w e = rw (inner_kids kids e) (size_at kids (last + 1) (end_le 0 last kids w))

pub positive : (n e y : ℕ) → y < n * e → 0 < e
positive n zero y h = absurd (omega (arith, mul-zero n))
positive n (suc e) y h = omega arith

-- ---- a family and its younger siblings
module _ (a b l r s n : ℕ) (kids rest : Forest) (w : WF a b (node l r s n kids rest)) where
  -- where the family reaches the younger siblings have nothing
  pub rest_none : (y : ℕ) → y ≤ last_byte l r s n → has rest y ≡ false
  rest_none y h = has_before (last_byte l r s n + 1) b rest (ruled w).rest_ok y (omega arith)

  pub rank_node : (x : ℕ) → count_below (has (node l r s n kids rest)) x ≡ count_below (in_segments (inner kids) l r s n) x + count_below (has rest) x
  unfolding has
  rank_node x = count_or (in_segments (inner kids) l r s n) (has rest) x (λ y _. ⊎_elim
      (λ h. rw (segments_after (inner kids) l r s n y h) refl)
      (λ h. rw (rest_none y h) (and-false (in_segments (inner kids) l r s n y)))
      (lt_or_le (last_byte l r s n) y))

  pub size_node : size_of (node l r s n kids rest) ≡ n * count_below (inner kids) (r - l + 1) + size_of rest
  unfolding size_of end_of
  size_node =
      let m = max (last_byte l r s n + 1) (end_of rest) in
      let f = (ruled w).fits in
      rank_node m ∙ ap₂ (λ (c d : ℕ). c + d) (segments_full (inner kids) l r s n m f.stride f.some (omega arith)) (size_at rest m (omega arith))

  end_node : (last_byte l r s n + 1 ≤ end_of (node l r s n kids rest)) × (end_of rest ≤ end_of (node l r s n kids rest))
  unfolding end_of
  end_node = (omega arith, omega arith)

  here_has : (x : ℕ) → in_segments (inner kids) l r s n x ≡ true → has (node l r s n kids rest) x ≡ true
  unfolding has
  here_has x e = rw e refl

  later_has : (x : ℕ) → has rest x ≡ true → has (node l r s n kids rest) x ≡ true
  unfolding has
  later_has x e = rw e (or-true (in_segments (inner kids) l r s n x))

  -- the y-th offset is in the family where y is below what it selects: by whole segments, and then inside one
  pub nth_here : (y : ℕ) → let each = count_below (inner kids) (r - l + 1) in y < n * each
      → nth (has (node l r s n kids rest)) (end_of (node l r s n kids rest)) y ≡ l + y / each * s + nth (inner kids) (r - l + 1) (y % each)
  nth_here y h =
      let each = count_below (inner kids) (r - l + 1) in
      let f = (ruled w).fits in
      let pos : 0 < each = positive n each y h in
      let k = y / each in
      let z = nth (inner kids) (r - l + 1) (y % each) in
      let x = l + k * s + z in
      let F : Found (inner kids) (r - l + 1) (y % each) z = nth_found (inner kids) (r - l + 1) (y % each) (mod-lt y pos) in
      let in-n : k < n = (div-lt_iff_lt-mul pos).1 h in
      let in_segment_lem : z ≤ r - l = omega (arith, F.below) in
      let in-family : x ≤ last_byte l r s n = omega (arith, mul-le-mul_right {m = k} {n = n - 1} s (omega arith)) in
      nth_is _ _ x y (omega (arith, end_node.0))
      (here_has x (segments_at (inner kids) l r s n k z f.stride in-n in_segment_lem ∙ F.passes))
      (omega (
        arith,
        rank_node x,
        count_at (inner kids) l r s n k z f.stride in-n in_segment_lem,
        count_none (has rest) x (λ v g. rest_none v (omega arith)),
        F.rank,
        div-add-mod' y each,
      ))

  -- and else it is in the younger siblings
  pub nth_later : (y : ℕ) → let each = count_below (inner kids) (r - l + 1) in n * each ≤ y → y < size_of (node l r s n kids rest)
      → nth (has (node l r s n kids rest)) (end_of (node l r s n kids rest)) y ≡ nth (has rest) (end_of rest) (y - n * each)
  unfolding size_of
  nth_later y h g =
      let each = count_below (inner kids) (r - l + 1) in
      let f = (ruled w).fits in
      let x = nth (has rest) (end_of rest) (y - n * each) in
      let F : Found (has rest) (end_of rest) (y - n * each) x = nth_found (has rest) (end_of rest) (y - n * each) (omega (arith, size_node)) in
      let past : last_byte l r s n < x = ⊎_elim (λ u. u) (λ u. absurd (true≢false (sym F.passes ∙ rest_none x u))) (lt_or_le (last_byte l r s n) x) in
      nth_is _ _ x y (omega (arith, F.below, end_node.1)) (later_has x F.passes)
      (omega (arith, rank_node x, segments_full (inner kids) l r s n x f.stride f.some past, F.rank))

-- ---- families select something: each has a segment, and a segment with children has what they select
pub size_some : (a b l r s n : ℕ) (kids rest : Forest) → WF a b (node l r s n kids rest) → 1 ≤ size_of (node l r s n kids rest)
size_some a b l r s n nil rest w =
    let each = each_leaf nil (r - l + 1) refl in
    omega (arith, size_node a b l r s n nil rest w, one-le-mul {a = n} {b = count_below (inner nil) (r - l + 1)} (ruled w).fits.some (omega (arith, each)))
size_some a b l r s n (node l₂ r₂ s₂ n₂ kids₂ rest₂) rest w =
    let kids = node l₂ r₂ s₂ n₂ kids₂ rest₂ in
    let some-kids = size_some 0 (r - l) l₂ r₂ s₂ n₂ kids₂ rest₂ (ruled w).kids_ok in
    let each = each_kids (r - l) kids (ruled w).kids_ok refl in
    omega (arith, size_node a b l r s n kids rest w, one-le-mul {a = n} {b = count_below (inner kids) (r - l + 1)} (ruled w).fits.some (omega (arith, each)))
