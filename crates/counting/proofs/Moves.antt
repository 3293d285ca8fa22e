-- Moves between trays: one after the other, and pair by pair of elements. Assumes nothing.
use mathlib.Core.Path.{◌≡◌, refl, sym, ap, ◌∙◌}
use mathlib.Core.Bool.{Bool, true, false, ◌&&◌, cond}
use mathlib.Core.List.{List, ◌++◌, foldl}
use Prim.Native.Nat.{ℕ, ◌+◌, ◌≤◌, ◌<◌}
use native.Mathlib.Omega.{arith}
use lib.ListN.{length, take, drop}
use Rattle.counting.specs.Count.{count_in}
use Rattle.counting.specs.Gather.{gathered}
use Rattle.counting.specs.Elements.{Elements, element, times, first_of, Partition}
use Rattle.counting.specs.Trays.{counts, in_tray, moved, pair_moved, pair_moves, EachPair}
use Rattle.counting.proofs.Cases.{cond_same}
use Rattle.counting.proofs.Elements.{first_lt, first_has}
use Rattle.counting.proofs.Folds.{kept, reached}
use Rattle.counting.proofs.Trays.{tray_ext, tray_length, tray_at, tray_only, tray_of}
use Rattle.counting.proofs.TrayParts.{tray_put}

-- ---- one move
module _ (L M : Elements) (a n : ℕ) (once : Partition M a n) (t : List ℕ) where
  pub length_moved : length (moved L M a n t) ≡ n
  unfolding moved
  length_moved = tray_length M a n once (in_tray L a n t)

  -- EVERY BYTE of the window is, in the second tray, what it was in the first
  pub moved_at : (x : ℕ) → a ≤ x → x < a + n → in_tray M a n (moved L M a n t) x ≡ in_tray L a n t x
  unfolding moved
  moved_at = tray_at M a n once (in_tray L a n t)

-- ---- TWO MOVES, one after the other, are one
pub moved_moved : (L M N : Elements) (a n : ℕ) → Partition M a n → (t : List ℕ) → moved M N a n (moved L M a n t) ≡ moved L N a n t
unfolding moved
moved_moved L M N a n once t = tray_ext N a n _ _ (λ x h k _. tray_at M a n once (in_tray L a n t) x h k)

-- ---- pair moves
module _ (L M : Elements) (a n : ℕ) (once : Partition M a n) (t : List ℕ) where
  pub length_pair : (i j : ℕ) (u : List ℕ) → length (pair_moved L M a n t i j u) ≡ n
  unfolding pair_moved
  length_pair i j u = tray_length M a n once _

  -- a byte that the pair shares is the first tray's, and every other stays
  pub pair_at : (i j : ℕ) (u : List ℕ) (x : ℕ) → a ≤ x → x < a + n
      → in_tray M a n (pair_moved L M a n t i j u) x ≡ cond (element L i x && element M j x) (in_tray L a n t x) (in_tray M a n u x)
  unfolding pair_moved
  pair_at i j u x h k = tray_at M a n once _ x h k

  -- it is done in element j's part of the second tray alone
  pub pair_part : (i j : ℕ) (u : List ℕ) → j < length M → length u ≡ n
      → take (counts (take j M) a n) u ++ (gathered (element M j) a n (λ x. cond (element L i x) (in_tray L a n t x) (in_tray M a n u x))
      ++ drop (count_in (element M j) a n) (drop (counts (take j M) a n) u))
      ≡ pair_moved L M a n t i j u
  unfolding pair_moved
  pair_part i j u h long =
      let new : ℕ → ℕ = λ x. cond (element L i x) (in_tray L a n t x) (in_tray M a n u x) in
      let at = counts (take j M) a n in
      ap (λ (v : List ℕ). take at v ++ (gathered (element M j) a n new ++ drop (count_in (element M j) a n) (drop at v))) (sym (tray_of M a n once u long))
      ∙ tray_put M a n j h once (in_tray M a n u) new
      ∙ tray_ext M a n _ _ (λ x _ _ _. nested (element L i x) (element M j x) _ _)
    where
      nested : (s r : Bool) (v w : ℕ) → cond r (cond s v w) w ≡ cond (s && r) v w
      nested true r v w = refl
      nested false r v w = cond_same r refl

  -- ALL PAIR MOVES, in any order and each at least once, into a tray that held anything, are the move
  pub pairs_move : Partition L a n → (pairs : List (ℕ × ℕ)) → EachPair L M pairs → (u : List ℕ) → length u ≡ n → pair_moves L M a n t pairs u ≡ moved L M a n t
  unfolding pair_moves
  pairs_move each-once pairs each u long =
      let step : List ℕ → ℕ × ℕ → List ℕ = λ v q. pair_moved L M a n t q.0 q.1 v in
      tray_only M a n once (foldl step u pairs) (moved L M a n t)
      (kept step (λ v. length v ≡ n) (λ v q _. length_pair q.0 q.1 v) pairs u long) (length_moved L M a n once t)
      (λ x h k.
      let i = first_of L x in
      let j = first_of M x in
      let someL : 1 ≤ times L x = omega (arith, each-once x h k) in
      let some_m : 1 ≤ times M x = omega (arith, once x h k) in
      reached step (λ v. in_tray M a n v x ≡ in_tray L a n t x) (λ v q d. pair_at q.0 q.1 v x h k ∙ cond_same (element L q.0 x && element M q.1 x) d)
      (i, j) (λ v. pair_at i j v x h k ∙ rw (first_has L x someL, first_has M x some_m)) pairs u (each i j (first_lt L x someL) (first_lt M x some_m))
      ∙ sym (moved_at L M a n once t x h k))
