-- Chunks of a run that follow or overlap each other make up the run, said of runs that are pasted into a list. Assumes nothing.
-- The code copies between two parts of one length and cites Chunks; this is the same law where the parts stand in longer lists.
use mathlib.Core.Path.{◌≡◌, sym, ap, ◌∙◌, subst}
use mathlib.Core.List.{List, ◌++◌, append_assoc}
use Prim.Native.Nat.{ℕ, ◌+◌, ◌-◌, ◌≤◌}
use native.Mathlib.Omega.{arith}
use lib.ListN.{length, take, drop, length-drop}
use lib.Seq.{length-take-le, take-append-add, take-take, take-add, drop-drop, paste, take-paste, drop-paste}

-- ---- where the first i elements of s stand in d from `to` on: what lies before a place among them, and what lies past them
module _ (d s : List ℕ) (to i j : ℕ) (writes : to + i ≤ length d) (reads : i ≤ length s) where
  before : j ≤ i → take (to + j) (paste d to s i) ≡ take to d ++ take j s
  before among =
      let here : length (take to d) ≡ to = length-take-le to d (omega arith) in
      let parts : take (to + j) (take to d ++ take i s) ≡ take to d ++ take j (take i s) =
      subst (λ (k : ℕ). take (k + j) (take to d ++ take i s) ≡ take to d ++ take j (take i s)) here (take-append-add (take to d) (take i s) j) in
      sym (take-take (to + j) (to + i) (paste d to s i) (omega arith))
      ∙ rw (take-paste d to s i (omega arith) reads) (parts ∙ rw (take-take j i s among))

  past : i ≤ j → drop (to + j) (paste d to s i) ≡ drop (to + j) d
  past beyond =
      let z : to + j ≡ to + i + (j - i) = omega arith in
      rw (z, ← drop-drop (j - i) (to + i) (paste d to s i), drop-paste d to s i (omega arith) reads) (drop-drop (j - i) (to + i) d)

-- ---- THE LAW: the first i of n elements, and then the last m of the n, which start at a place j among those i or right after them
module _ (src d₀ : List ℕ) (from to n : ℕ) (reads : from + n ≤ length src) (writes : to + n ≤ length d₀) where
  pub chunk : {d after : List ℕ} (i j m : ℕ) → d ≡ paste d₀ to (drop from src) i → after ≡ paste d (to + j) (drop (from + j) src) m
      → n ≡ j + m → j ≤ i → i ≤ n → after ≡ paste d₀ to (drop from src) n
  chunk i j m first last ends among short =
      let s = drop from src in
      let long : n ≤ length s = rw length-drop (omega arith) in
      let z : to + j + m ≡ to + n = omega arith in
      let before' = before d₀ s to i j (omega arith) (omega arith) among in
      let past' = past d₀ s to i n (omega arith) (omega arith) short in
      last ∙ rw (first, ← drop-drop j from src, before', z, past', ends, take-add j m s)
      (ap (λ (l : List ℕ). l ++ drop (to + (j + m)) d₀) (append_assoc (take to d₀) (take j s) (take m (drop j s))))
