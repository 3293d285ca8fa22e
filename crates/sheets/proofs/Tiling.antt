-- How elements share a pattern out: what they count together, where sharing can fail, and every file offset in one element. Assumes nothing.
use mathlib.Core.Path.{◌≡◌, refl, ap₂, ◌∙◌}
use mathlib.Core.Bool.{Bool}
use mathlib.Core.List.{List, [], ◌∷◌, map}
use mathlib.Core.Logic.{⊎_elim}
use Prim.Native.Nat.{ℕ, zero, suc, ◌+◌, ◌-◌, ◌%◌, ◌≤◌, ◌<◌}
use native.Mathlib.Nat.{mod-lt}
use native.Mathlib.Omega.{arith}
use lib.ListN.{length}
use Rattle.counting.specs.Count.{count_below}
use Rattle.counting.specs.Periodic.{owns}
use Rattle.counting.specs.Elements.{times}
use Rattle.counting.proofs.Cases.{lt_or_le}
use Rattle.counting.proofs.Counts.{count_zero, count_suc, count_mono}
use Rattle.counting.proofs.Periods.{owns_none}
use Rattle.counting.proofs.Elements.{times_owns}
use Rattle.families.specs.Forest.{Forest, nil, node, has, WF}
use Rattle.families.specs.Flat.{width, depth, All}
use Rattle.families.proofs.Forests.{end_le, size_at, count_most, size_some}
use Rattle.families.proofs.Flats.{Shallow, ElementOk, all_if}
use Rattle.sheets.specs.Pattern.{sizes, in_elements, Tiled}
use Rattle.sheets.specs.Encode.{ElementRules}

-- ---- what the elements count together below n
unfoldable pub together : List Forest → ℕ → ℕ
together [] n = 0
together (F ∷ Fs) n = count_below (has F) n + together Fs n

together_zero : (Fs : List Forest) → together Fs 0 ≡ 0
unfolding together
together_zero [] = refl
together_zero (F ∷ Fs) = omega (arith, count_zero (has F), together_zero Fs)

-- it grows by the elements that have n
pub together_suc : (Fs : List Forest) (n : ℕ) → together Fs (suc n) ≡ together Fs n + in_elements Fs n
unfolding together times
together_suc [] n = refl
together_suc (F ∷ Fs) n = omega (arith, count_suc (has F) n, together_suc Fs n)

together_mono : (Fs : List Forest) (m n : ℕ) → m ≤ n → together Fs m ≤ together Fs n
unfolding together
together_mono [] m n h = omega arith
together_mono (F ∷ Fs) m n h = omega (arith, count_mono (has F) m n h, together_mono Fs m n h)

-- it is never more than the pattern's size, and past every element it is that
pub together_le : (Fs : List Forest) (n : ℕ) → together Fs n ≤ sizes Fs
unfolding together sizes
together_le [] n = omega arith
together_le (F ∷ Fs) n = omega (arith, count_most F n, together_le Fs n)

pub together_all : (bound : ℕ) (Fs : List Forest) → All (WF 0 bound) Fs → (n : ℕ) → bound < n → together Fs n ≡ sizes Fs
unfolding All together sizes
together_all bound [] a n h = refl
together_all bound (F ∷ Fs) a n h =
    ap₂ (λ (c d : ℕ). c + d) (size_at F n (omega (arith, end_le 0 bound F a.0))) (together_all bound Fs a.1 n h)

-- where every offset is in one element they count every offset
together_even : (Fs : List Forest) (n : ℕ) → ((y : ℕ) → y < n → in_elements Fs y ≡ 1) → together Fs n ≡ n
together_even Fs zero h = together_zero Fs
together_even Fs (suc n) h = omega (arith, together_suc Fs n, together_even Fs n (λ y l. h y (omega arith)), h n (omega arith))

-- ---- SHARING FAILS WITHIN THE BOUND, where it fails
pub uneven_below : (bound : ℕ) (Fs : List Forest) → All (WF 0 bound) Fs → (x : ℕ) → ((y : ℕ) → y < x → in_elements Fs y ≡ 1) → x < sizes Fs → x ≤ bound
uneven_below bound Fs a x h l =
    ⊎_elim (λ g. absurd (omega (arith, together_all bound Fs a x g, together_even Fs x h))) (λ g. g) (lt_or_le bound x)

-- ---- before the displacement an offset is in no element
pub file_none : (L : List (ℕ → Bool)) (d P x : ℕ) → x < d → times (map (owns d P) L) x ≡ 0
unfolding times
file_none [] d P x h = refl
file_none (p ∷ L) d P x h = rw (owns_none d P p x h, file_none L d P x h) refl

-- ---- elements that share the pattern out
module _ (Fs : List Forest) (tiled : Tiled Fs) where
  pub size_most : (bound : ℕ) → All (WF 0 bound) Fs → sizes Fs ≤ bound + 1
  size_most bound a =
      ⊎_elim (λ g. absurd (omega (arith, uneven_below bound Fs a (bound + 1) (λ y l. tiled y (omega arith)) g))) (λ g. g) (lt_or_le (bound + 1) (sizes Fs))

  -- past the pattern none of them has anything
  pub none_past : (x : ℕ) → sizes Fs ≤ x → in_elements Fs x ≡ 0
  none_past x h =
      omega (arith, together_suc Fs x, together_le Fs (suc x), together_mono Fs (sizes Fs) x h, together_even Fs (sizes Fs) tiled)

  -- EVERY FILE OFFSET from the displacement on is in exactly one element
  pub file_once : 1 ≤ sizes Fs → (d x : ℕ) → d ≤ x → times (map (owns d (sizes Fs)) (map has Fs)) x ≡ 1
  file_once some d x h = times_owns (map has Fs) d (sizes Fs) x h ∙ tiled ((x - d) % sizes Fs) (mod-lt (x - d) some)

-- ---- an element with families selects something
pub size_least : (bound : ℕ) (Fs : List Forest) → All (ElementOk bound) Fs → 1 ≤ length Fs → 1 ≤ sizes Fs
unfolding All sizes width
size_least bound [] a h = absurd (omega arith)
size_least bound (nil ∷ Fs) a h = absurd (omega (arith, a.0.0))
size_least bound (node l r s n kids rest ∷ Fs) a h = omega (arith, size_some 0 bound l r s n kids rest a.0.1)

-- ---- the sheet rules of each element give what the laws of layouts ask of all
pub each_shallow : (Fs : List Forest) → All ElementRules Fs → Shallow 4 Fs
each_shallow Fs e = all_if ElementRules (λ F. depth F ≤ 4) (λ F r. r.levels) Fs e

pub each_ok : (Fs : List Forest) → All ElementRules Fs → All (ElementOk 65535) Fs
each_ok Fs e = all_if ElementRules (ElementOk 65535) (λ F r. (r.some, r.families)) Fs e

pub each_ruled : (Fs : List Forest) → All ElementRules Fs → All (WF 0 65535) Fs
each_ruled Fs e = all_if ElementRules (WF 0 65535) (λ F r. r.families) Fs e
