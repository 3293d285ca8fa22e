-- Painting a family segment by segment, and siblings one after the other. Assumes nothing.
use mathlib.Core.Path.{◌≡◌, refl, sym, ap, ◌∙◌}
use mathlib.Core.Bool.{Bool, true, and-false}
use mathlib.Core.List.{List, ◌++◌}
use mathlib.Core.Logic.{⊎_elim}
use Prim.Native.Nat.{ℕ, ◌+◌, ◌-◌, ◌*◌, ◌≤◌, ◌<◌}
use native.Mathlib.Nat.{zero-mul, suc-mul, mul-le-mul_right}
use native.Mathlib.Numerals.{add-one}
use native.Mathlib.Omega.{arith}
use lib.Dec.{leb}
use lib.ListN.{length, get_or, take, drop, length-append, length-drop, get_or-append}
use lib.Seq.{length-take-le, get_or-append-add, get_or-take, get_or-drop}
use borrow.Author.Tests.{le-leb, lt-leb}
use Rattle.counting.proofs.Cases.{lt_or_le}
use Rattle.families.specs.declared.Family.{Family}
use Rattle.families.specs.declared.nested.Nested.{Nested}
use Rattle.families.specs.declared.siblings.Siblings.{Siblings}
use Rattle.families.specs.Forest.{Forest, any_below, in_segment, in_segments, has, inner, WF}
use Rattle.families.specs.Decoded.{segments_of, FitsIn, forest_at}
use Rattle.families.specs.Lent.{forest_of, Split}
use Rattle.families.specs.Owners.{mark, painted}
use Rattle.families.proofs.Forests.{wf_wider, Ruled, ruled, inner_leaf, inner_kids}
use Rattle.families.proofs.Steps.{leaf, branch}
use Rattle.families.proofs.Loops.{Rest, rest_first, rest_next, rest_nil, nil_has}
use Rattle.families.proofs.Marks.{length_painted, get_or_painted, painted_is, painted_none, painted_or}

-- ---- one segment, painted by itself as a part of the table
-- past the first of two lists
past : (xs ys : List ℕ) (n x : ℕ) → length xs ≡ n → n ≤ x → get_or (xs ++ ys) x 0 ≡ get_or ys (x - n) 0
past xs ys n x e h = let z : x ≡ length xs + (x - n) = omega arith in ap (λ (k : ℕ). get_or (xs ++ ys) k 0) z ∙ get_or-append-add xs ys (x - n) 0

length_part : (from m : ℕ) (t : List ℕ) → from + m ≤ length t → length (take m (drop from t)) ≡ m
length_part from m t room = length-take-le m (drop from t) (omega (arith, length-drop from t))

module _ (K : ℕ → Bool) (me from last m : ℕ) (t : List ℕ) (is : m ≡ last + 1) (room : from + m ≤ length t) where
  -- what stands before the part, the part with what K selects painted, and what stands after it
  abbrev A : List ℕ
  A = take from t

  abbrev B : List ℕ
  B = painted K me (take m (drop from t))

  abbrev C : List ℕ
  C = drop m (drop from t)

  part_painted : take from t ++ (painted K me (take m (drop from t)) ++ drop m (drop from t)) ≡ painted (in_segment K from last) me t
  part_painted = painted_is (in_segment K from last) me t (A ++ (B ++ C))
      (length-append A (B ++ C) ∙ omega (arith, la, lb, length-append B C, length-drop from t, length-drop m (drop from t)))
      (λ x h. ⊎_elim (low x) (λ g. ⊎_elim (inside x g) (high x) (lt_or_le x (from + m))) (lt_or_le x from))
    where
      la : length A ≡ from
      la = length-take-le from t (omega arith)

      lb : length B ≡ m
      lb = length_painted K me (take m (drop from t)) ∙ length_part from m t room

      low : (x : ℕ) → x < from → get_or (A ++ (B ++ C)) x 0 ≡ mark me (in_segment K from last x) (get_or t x 0)
      low x h = rw (lt-leb from x h) (get_or-append A (B ++ C) 0 x (omega (arith, la)) ∙ get_or-take from t x 0 h)

      inside : (x : ℕ) → from ≤ x → x < from + m → get_or (A ++ (B ++ C)) x 0 ≡ mark me (in_segment K from last x) (get_or t x 0)
      inside x h g =
          let z : from + (x - from) ≡ x = omega arith in
          rw (le-leb from x h, le-leb x (from + last) (omega arith))
          (past A (B ++ C) from x la h
          ∙ get_or-append B C 0 (x - from) (omega (arith, lb))
          ∙ get_or_painted K me (take m (drop from t)) (x - from) (omega (arith, length_part from m t room))
          ∙ ap (mark me (K (x - from))) (get_or-take m (drop from t) (x - from) 0 (omega arith) ∙ get_or-drop from t (x - from) 0 ∙ ap (λ (k : ℕ). get_or t k 0) z))

      high : (x : ℕ) → from + m ≤ x → get_or (A ++ (B ++ C)) x 0 ≡ mark me (in_segment K from last x) (get_or t x 0)
      high x h =
          let z : from + (m + (x - from - m)) ≡ x = omega arith in
          rw (lt-leb x (from + last) (omega arith), and-false (leb from x))
          (past A (B ++ C) from x la (omega arith)
          ∙ past B C m (x - from) lb (omega arith)
          ∙ get_or-drop m (drop from t) (x - from - m) 0
          ∙ get_or-drop from t (m + (x - from - m)) 0
          ∙ ap (λ (k : ℕ). get_or t k 0) z)

-- ---- the loop over a family's segments: the first k are painted, the first of all being the one from l to e
pub record Turn (K : ℕ → Bool) (me l e s : ℕ) (t₀ t : List ℕ) (from to k : ℕ) : Type 0 where
  pub start : from ≡ l + k * s
  pub end : to ≡ e + k * s
  pub same : length t ≡ length t₀
  pub paints : t ≡ painted (in_segments K l (e - 1) s k) me t₀

pub turn_first : (K : ℕ → Bool) (me l e s : ℕ) (t : List ℕ) → Turn K me l e s t t l e 0
unfolding in_segments any_below
turn_first K me l e s t = record { start = omega (arith, zero-mul s); end = omega (arith, zero-mul s); same = refl; paints = sym (painted_none _ me t (λ x. refl)) }

module _ (f : Family) {K : ℕ → Bool} {me : ℕ} {t₀ t : List ℕ} {from to k : ℕ}
    (T : Turn K me f.l (f.r + 1) f.s t₀ t from to k) (some : 0 < length t₀) (fits : FitsIn (length t₀ - 1) f) where
  turn_long : to - from ≡ f.r - f.l + 1
  turn_long = omega (arith, T, fits)

  pub turn_room : k < f.n → to ≤ length t
  turn_room h = omega (arith, T, fits, mul-le-mul_right {m = k} {n = f.n - 1} f.s (omega arith))

  -- the part that is lent is as long as a segment
  pub turn_part : (kids : Forest) → WF 0 (f.r - f.l) kids → k < f.n
      → let part = take (to - from) (drop from t) in (0 < length part) × WF 0 (length part - 1) kids
  turn_part kids w h =
      let z : f.r - f.l + 1 - 1 ≡ f.r - f.l = omega arith in
      rw (length_part from (to - from) t (omega (arith, turn_room h, T, fits)), turn_long) (omega arith, rw z w)

  -- what comes back in the part's place
  pub turn_next : (part : List ℕ) → k < f.n → part ≡ painted K me (take (to - from) (drop from t))
      → Turn K me f.l (f.r + 1) f.s t₀ (take from t ++ (part ++ drop (to - from) (drop from t))) (from + f.s) (to + f.s) (k + 1)
  unfolding in_segments any_below
  turn_next part h e =
      let u : f.r + 1 - 1 ≡ f.r = omega arith in
      let now : take from t ++ (part ++ drop (to - from) (drop from t)) ≡ painted (in_segment K from (f.r - f.l)) me t =
      rw e (part_painted K me from (f.r - f.l) (to - from) t turn_long (omega (arith, turn_room h, T, fits))) in
      record {
        start = omega (arith, T, suc-mul k f.s);
        end = omega (arith, T, suc-mul k f.s);
        same = ap length now ∙ length_painted _ me t ∙ T.same;
        paints =
            now
            ∙ ap (painted (in_segment K from (f.r - f.l)) me) T.paints
            ∙ painted_or (in_segments K f.l (f.r + 1 - 1) f.s k) (in_segment K from (f.r - f.l)) me t₀
            ∙ rw (add-one k, T.start, u) refl;
      }

  pub turn_last : k ≤ f.n → f.n ≤ k → t ≡ painted (segments_of f K) me t₀
  turn_last h g =
      let z : k ≡ f.n = omega arith in
      let u : f.r + 1 - 1 ≡ f.r = omega arith in
      rw (u, z) at T.paints

-- ---- the loop of `paint`: `rest` is left to be painted after i turns
pub record Painting (all rest : Siblings) (me i : ℕ) (t₀ t : List ℕ) : Type 0 where
  pub left : Rest all rest i
  pub some : 0 < length t₀
  pub same : length t ≡ length t₀
  pub ok : WF 0 (length t₀ - 1) (forest_of rest)
  pub paints : painted (has (forest_of rest)) me t ≡ painted (has (forest_of all)) me t₀

pub painting_first : (all : Siblings) (me : ℕ) (t : List ℕ) → 0 < length t → WF 0 (length t - 1) (forest_of all) → Painting all all me 0 t t
painting_first all me t some w = record { left = rest_first all; some = some; same = refl; ok = w; paints = refl }

module _ {all rest : Siblings} {me i : ℕ} {t₀ t : List ℕ} (P : Painting all rest me i t₀ t) where
  module _ {younger : Siblings} {eldest : Nested} (S : Split rest eldest younger) where
    -- the rules of the eldest and of the younger siblings, with the table's end as their bound
    rules : let f = eldest.family in Ruled 0 (length t₀ - 1) f.l f.r f.s f.n (forest_of eldest.children) (forest_of younger)
    rules = ruled (rw S.is at P.ok)

    pub painting_fits : FitsIn (length t - 1) eldest.family
    painting_fits = rw P.same rules.fits

    pub painting_next : (t' : List ℕ) → t' ≡ painted (segments_of eldest.family (inner (forest_of eldest.children))) me t → Painting all younger me (i + 1) t₀ t'
    unfolding has
    painting_next t' p = record {
      left = rest_next P.left S;
      some = P.some;
      same = ap length p ∙ length_painted _ me t ∙ P.same;
      ok = wf_wider (forest_of younger) (omega arith) (omega arith) rules.rest_ok;
      paints = rw p (painted_or (segments_of eldest.family (inner (forest_of eldest.children))) _ me t) ∙ rw S.is at P.paints;
    }

  pub painting_last : all.count ≤ i → (all.count ≡ 0 → ⊥) → t ≡ painted (inner (forest_of all)) me t₀
  painting_last h some =
      rw (inner_kids (forest_of all) (branch _ _ _ _ some)) (sym (painted_none _ me t (λ x. rw (rest_nil P.left h) (nil_has x))) ∙ P.paints)

-- ---- what is selected inside a segment: all of it without children, and else what they select
pub inner_all : (levels : ℕ) (look : ℕ → Family) (i k : ℕ) → k ≡ 0 → inner (forest_at levels look i k) ≡ (λ _. true)
inner_all levels look i k e = inner_leaf (forest_at levels look i k) (leaf levels look i k e)

pub inner_has : (levels : ℕ) (look : ℕ → Family) (i k : ℕ) → (k ≡ 0 → ⊥) → inner (forest_at levels look i k) ≡ has (forest_at levels look i k)
inner_has levels look i k h = inner_kids (forest_at levels look i k) (branch levels look i k h)
