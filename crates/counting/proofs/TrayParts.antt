-- Parts of a tray: an element's, what replaces it, how a tray is filled part by part, and where a stretch of an element stands. Assumes nothing.
use mathlib.Core.Path.{◌≡◌, refl, sym, ap, ap₂, ◌∙◌}
use mathlib.Core.Bool.{true, false, cond}
use mathlib.Core.List.{List, [], ◌∷◌, ◌++◌, append_assoc, append-nil}
use mathlib.Core.Logic.{⊎_elim}
use Prim.Native.Nat.{ℕ, zero, suc, ◌+◌, ◌-◌, ◌≤◌, ◌<◌}
use native.Mathlib.Nat.{zero-add, add-zero, add-sub_of_le}
use native.Mathlib.Omega.{arith}
use lib.ListN.{length, get_or, take, drop, drop_of_length-le}
use lib.Seq.{split_at, take-suc, take-add, take_at, take_all, take-length, drop_at, drop-drop}
use Rattle.counting.specs.Count.{count_in}
use Rattle.counting.specs.Gather.{tabulated, gathered}
use Rattle.counting.specs.Elements.{Elements, element, times, Partition}
use Rattle.counting.specs.Trays.{counts, tray, tray_place, in_tray}
use Rattle.counting.proofs.Cases.{by_test, lt_or_le}
use Rattle.counting.proofs.Counts.{count_all, count_in_split}
use Rattle.counting.proofs.Gathers.{tabulated_part, length_gathered, gathered_ext}
use Rattle.counting.proofs.Elements.{times_some, times_around}
use Rattle.counting.proofs.Trays.{length_tray, counts_all, tray_ext, tray_length, place_within}

-- ---- elements and then further ones
counts_append : (L M : Elements) (a n : ℕ) → counts (L ++ M) a n ≡ counts L a n + counts M a n
unfolding counts
counts_append [] M a n = sym (zero-add _)
counts_append (p ∷ L) M a n = omega (arith, counts_append L M a n)

tray_append : (L M : Elements) (a n : ℕ) (f : ℕ → ℕ) → tray (L ++ M) a n f ≡ tray L a n f ++ tray M a n f
unfolding tray
tray_append [] M a n f = refl
tray_append (p ∷ L) M a n f = rw (tray_append L M a n f) (sym (append_assoc (gathered p a n f) (tray L a n f) (tray M a n f)))

-- ---- element j's part: it starts after the earlier elements' counts, and is as long as its own
module _ (L : Elements) (a n j : ℕ) (h : j < length L) where
  -- the trays of the earlier elements, of element j, and of the later ones
  tray_around : (f : ℕ → ℕ) → tray L a n f ≡ tray (take j L) a n f ++ (gathered (element L j) a n f ++ tray (drop (suc j) L) a n f)
  unfolding tray
  tray_around f = ap (λ (K : Elements). tray K a n f) (split_at L j (λ _. false) h) ∙ tray_append (take j L) (element L j ∷ drop (suc j) L) a n f

  -- what stands before its start, and from there on
  before_part : (f : ℕ → ℕ) → take (counts (take j L) a n) (tray L a n f) ≡ tray (take j L) a n f
  before_part f = ap (take (counts (take j L) a n)) (tray_around f) ∙ take_at (tray (take j L) a n f) _ _ (length_tray (take j L) a n f)

  from_part : (f : ℕ → ℕ) → drop (counts (take j L) a n) (tray L a n f) ≡ gathered (element L j) a n f ++ tray (drop (suc j) L) a n f
  from_part f = ap (drop (counts (take j L) a n)) (tray_around f) ∙ drop_at (tray (take j L) a n f) _ _ (length_tray (take j L) a n f)

  -- THE PART IS THE GATHER of element j
  pub tray_part : (f : ℕ → ℕ) → take (count_in (element L j) a n) (drop (counts (take j L) a n) (tray L a n f)) ≡ gathered (element L j) a n f
  tray_part f = ap (take (count_in (element L j) a n)) (from_part f) ∙ take_at (gathered (element L j) a n f) _ _ (length_gathered (element L j) a n f)

  -- where it ends, the next element's starts
  pub part_end : counts (take j L) a n + count_in (element L j) a n ≡ counts (take (suc j) L) a n
  unfolding counts
  part_end = sym (ap (λ (K : Elements). counts K a n) (take-suc L j (λ _. false) h) ∙ counts_append (take j L) (element L j ∷ []) a n ∙ rw add-zero)

  module _ (once : Partition L a n) where
    pub part_within : counts (take j L) a n + count_in (element L j) a n ≤ n
    unfolding counts
    part_within =
        omega (
          arith,
          counts_all L a n once,
          ap (λ (K : Elements). counts K a n) (split_at L j (λ _. false) h) ∙ counts_append (take j L) (element L j ∷ drop (suc j) L) a n,
        )

    -- what another element has keeps its byte
    other : (f g : ℕ → ℕ) (x : ℕ) → a ≤ x → x < a + n → 1 ≤ times (take j L) x + times (drop (suc j) L) x → f x ≡ cond (element L j x) (g x) (f x)
    other f g x u v t = by_test (element L j x) (λ e. absurd (omega (arith, once x u v, rw e at (times_around L x j h)))) (λ e. rw e)

    -- NEW BYTES FOR ELEMENT j ALONE: its part is new, and the rest as it was
    pub tray_put : (f g : ℕ → ℕ)
        → take (counts (take j L) a n) (tray L a n f)
        ++ (gathered (element L j) a n g ++ drop (count_in (element L j) a n) (drop (counts (take j L) a n) (tray L a n f)))
        ≡ tray L a n (λ x. cond (element L j x) (g x) (f x))
    tray_put f g =
        let q = element L j in
        let new : ℕ → ℕ = λ x. cond (q x) (g x) (f x) in
        let later = drop (suc j) L in
        ap₂ (λ (s t : List ℕ). s ++ (gathered q a n g ++ t))
        (before_part f ∙ tray_ext (take j L) a n f new (λ x u v t. other f g x u v (omega (arith, t))))
        (ap (drop (count_in q a n)) (from_part f) ∙ drop_at (gathered q a n f) (tray later a n f) _ (length_gathered q a n f)
        ∙ tray_ext later a n f new (λ x u v t. other f g x u v (omega (arith, t))))
        ∙ ap (λ (s : List ℕ). tray (take j L) a n new ++ (s ++ tray later a n new)) (gathered_ext q a n g new (λ x u v e. rw e))
        ∙ sym (tray_around new)

-- ---- a tray filled part by part: it has the bytes f up to element j's part, and from there on it is still u
abbrev pub filled : Elements → (a n : ℕ) → (f : ℕ → ℕ) → (u : List ℕ) → (j : ℕ) → List ℕ
filled L a n f u j = take (counts (take j L) a n) (tray L a n f) ++ drop (counts (take j L) a n) u

module _ (L : Elements) (a n : ℕ) (f : ℕ → ℕ) (u : List ℕ) where
  pub filled_none : filled L a n f u 0 ≡ u
  unfolding counts
  filled_none = refl

  -- the gather of element j is put at its part
  pub filled_more : (j : ℕ) → j < length L → let at = counts (take j L) a n in let v = filled L a n f u j in
      take at v ++ (gathered (element L j) a n f ++ drop (count_in (element L j) a n) (drop at v)) ≡ filled L a n f u (suc j)
  filled_more j h =
      let at = counts (take j L) a n in
      let q = element L j in
      let front = take at (tray L a n f) in
      let long : length front ≡ at = ap length (before_part L a n j h f) ∙ length_tray (take j L) a n f in
      let further : take (at + count_in q a n) (tray L a n f) ≡ front ++ gathered q a n f =
      take-add at (count_in q a n) (tray L a n f) ∙ ap (λ (s : List ℕ). front ++ s) (tray_part L a n j h f) in
      ap₂ (λ (s r : List ℕ). s ++ (gathered q a n f ++ r))
      (take_at front (drop at u) at long)
      (ap (drop (count_in q a n)) (drop_at front (drop at u) at long) ∙ drop-drop (count_in q a n) at u)
      ∙ sym (append_assoc front (gathered q a n f) (drop (at + count_in q a n) u))
      ∙ ap (λ (s : List ℕ). s ++ drop (at + count_in q a n) u) (sym further)
      ∙ ap (λ (k : ℕ). take k (tray L a n f) ++ drop k u) (part_end L a n j h)

  pub filled_all : Partition L a n → length u ≡ n → filled L a n f u (length L) ≡ tray L a n f
  filled_all once long =
      let whole : counts (take (length L) L) a n ≡ n = ap (λ (K : Elements). counts K a n) (take-length L) ∙ counts_all L a n once in
      rw whole (ap₂ (λ (s r : List ℕ). s ++ r)
      (take_all n (tray L a n f) (omega (arith, tray_length L a n once f)))
      (drop_of_length-le u {i = n} (omega arith))
      ∙ append-nil (tray L a n f))

-- ---- THE PLACE of a byte of element i: after the earlier elements' counts, and its own from a on
pub place_of : (L : Elements) (a n i x : ℕ) → times L x ≡ 1 → element L i x ≡ true → tray_place L a n x ≡ counts (take i L) a n + count_in (element L i) a (x - a)
unfolding times counts tray_place
place_of [] a n i x t e = absurd (omega arith)
place_of (p ∷ L) a n zero x t e = rw e (sym (zero-add _))
place_of (p ∷ L) a n (suc i) x t e = by_test (p x)
    (λ s. absurd (omega (arith, times_some L x i e, rw s at t)))
    (λ s. rw s (omega (arith, place_of L a n i x (omega (arith, rw s at t)) e)))

-- a stretch of element i, of m numbers from x on
module _ (L : Elements) (a n : ℕ) (once : Partition L a n) (i x m : ℕ) (h : a ≤ x) (k : x + m ≤ a + n)
    (has : (z : ℕ) → x ≤ z → z < x + m → element L i z ≡ true) where
  -- its places go up by one
  pub place_run : (y : ℕ) → y < m → tray_place L a n (x + y) ≡ tray_place L a n x + y
  unfolding count_in
  place_run y l =
      let q = element L i in
      let apart : x + y - a ≡ x - a + y = omega arith in
      let all : count_in q x y ≡ y = count_all (λ z. q (x + z)) y (λ z u. has (x + z) (omega arith) (omega arith)) in
      omega (
        arith,
        place_of L a n i (x + y) (once (x + y) (omega arith) (omega arith)) (has (x + y) (omega arith) (omega arith)),
        place_of L a n i x (once x h (omega arith)) (has x (omega arith) (omega arith)),
        ap (count_in q a) apart ∙ count_in_split q a (x - a) y,
        ap (λ (z : ℕ). count_in q z y) (add-sub_of_le h),
      )

  -- and the tray has them all
  pub run_within : 0 < m → tray_place L a n x + m ≤ n
  run_within l =
      let last = m - 1 in
      omega (arith, place_run last (omega arith), place_within L a n once (x + last) (omega arith) (omega arith))

  -- so its bytes are a part of the tray
  pub tray_run : (t : List ℕ) → length t ≡ n → tabulated x m (in_tray L a n t) ≡ take m (drop (tray_place L a n x) t)
  unfolding tabulated
  tray_run t long = ⊎_elim
      (λ l. tabulated_part x m (in_tray L a n t) t (tray_place L a n x) (omega (arith, run_within l)) (λ y u. ap (λ (z : ℕ). get_or t z 0) (place_run y u)))
      (λ l. let none : m ≡ 0 = omega arith in rw none refl)
      (lt_or_le 0 m)
