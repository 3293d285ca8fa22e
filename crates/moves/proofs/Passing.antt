-- What a window's gathered bytes are from one selected run to the next, or to a later byte of the same run. Assumes nothing.
use mathlib.Core.Path.{◌≡◌, refl, sym, ap, ap₂, ◌∙◌}
use mathlib.Core.Bool.{Bool, true, false}
use mathlib.Core.List.{List, ◌++◌}
use mathlib.Core.Logic.{⊎_elim}
use Prim.Native.Nat.{ℕ, ◌+◌, ◌-◌, ◌≤◌, ◌<◌, min}
use native.Mathlib.Omega.{arith}
use lib.ListN.{length, length-append}
use Rattle.counting.specs.Count.{count_in}
use Rattle.counting.specs.Gather.{tabulated, gathered}
use Rattle.counting.proofs.Cases.{lt_or_le}
use Rattle.counting.proofs.Gathers.{length_tabulated, length_gathered, gathered_split, gathered_none, gathered_all, gathered_skip}
use Rattle.moves.specs.Strides.{Ahead}

-- A STEP in what is left of a window, n offsets from x on: the first m are selected, and `far` from x is the next one to go on at
pub record Passes (p : ℕ → Bool) (x n m far : ℕ) : Type 0 where
  pub within : m ≤ n
  pub ahead : m ≤ far
  pub all : (y : ℕ) → y < m → p (x + y) ≡ true
  pub next : p (x + far) ≡ true
  pub rest : (f : ℕ → ℕ) → gathered p (x + m) (n - m) f ≡ gathered p (x + far) (n - far) f

module _ {p : ℕ → Bool} {x n m far : ℕ} (S : Passes p x n m far) where
  pub gathered_pass : (f : ℕ → ℕ) → gathered p x n f ≡ tabulated x m f ++ gathered p (x + far) (n - far) f
  gathered_pass f =
      ap (λ (z : ℕ). gathered p x z f) (let z : n ≡ m + (n - m) = omega (arith, S.within) in z)
      ∙ gathered_split p x m (n - m) f
      ∙ ap₂ (λ (u v : List ℕ). u ++ v) (gathered_all p x m f S.all) (S.rest f)

  pub count_pass : count_in p x n ≡ m + count_in p (x + far) (n - far)
  count_pass =
      let f : ℕ → ℕ = λ _. 0 in
      omega (
        arith,
        sym (length_gathered p x n f) ∙ ap length (gathered_pass f) ∙ length-append (tabulated x m f) (gathered p (x + far) (n - far) f),
        length_tabulated x m f,
        length_gathered p (x + far) (n - far) f,
      )

  -- it can be taken in two: over the first k, and then over the others
  module _ (k : ℕ) (less : k < m) where
    pub pass_front : Passes p x n k k
    pass_front = record {
      within = omega (arith, S.within);
      ahead = omega arith;
      all = λ y l. S.all y (omega arith);
      next = S.all k less;
      rest = λ f. refl;
    }

    pub pass_others : Passes p (x + k) (n - k) (m - k) (far - k)
    pass_others =
        let there : (u : ℕ) → k ≤ u → x + k + (u - k) ≡ x + u = λ u l. omega arith in
        let left : (u : ℕ) → k ≤ u → n - k - (u - k) ≡ n - u = λ u l. omega arith in
        let on : k ≤ far = omega (arith, S.ahead) in
        record {
          within = omega (arith, S.within);
          ahead = omega (arith, S.ahead);
          all = λ y l. ap p (let z : x + k + y ≡ x + (k + y) = omega arith in z) ∙ S.all (k + y) (omega arith);
          next = ap p (there far on) ∙ S.next;
          rest = λ f.
              ap₂ (λ (z u : ℕ). gathered p z u f) (there m (omega arith)) (left m (omega arith))
              ∙ S.rest f
              ∙ sym (ap₂ (λ (z u : ℕ). gathered p z u f) (there far on) (left far on));
        }

module _ {p : ℕ → Bool} {x run far : ℕ} (A : Ahead p x run far) (n m : ℕ) where
  -- to the next run, of the window's part of this one
  module _ (clipped : m ≡ min run n) where
    past_run : (f : ℕ → ℕ) → gathered p (x + m) (n - m) f ≡ gathered p (x + far) (n - far) f
    past_run f = ⊎_elim on ends (lt_or_le run n)
      where
        -- the gap after the run
        on : run < n → gathered p (x + m) (n - m) f ≡ gathered p (x + far) (n - far) f
        on l =
            let all : m ≡ run = omega arith in
            let gap : (y : ℕ) → y < far - run → p (x + run + y) ≡ false =
            λ y k. ap p (let z : x + run + y ≡ x + (run + y) = omega arith in z) ∙ A.none (run + y) (omega arith) (omega arith) in
            let there : x + run + (far - run) ≡ x + far = omega (arith, A.within) in
            let left : n - run - (far - run) ≡ n - far = omega (arith, A.within) in
            rw all (gathered_skip p (x + run) (far - run) (n - run) f gap ∙ ap₂ (λ (z k : ℕ). gathered p z k f) there left)

        -- the window ends with the run or in it
        ends : n ≤ run → gathered p (x + m) (n - m) f ≡ gathered p (x + far) (n - far) f
        ends l = gathered_none p (x + m) (n - m) f (omega arith) ∙ sym (gathered_none p (x + far) (n - far) f (omega (arith, A.within)))

    pub run_passes : Passes p x n m far
    run_passes = record {
      within = omega arith;
      ahead = omega (arith, A.within);
      all = λ y l. A.all y (omega arith);
      next = A.next;
      rest = past_run;
    }
