-- The elements of an accepted sheet share the file out: the ranks of x in all of them make up what lies before x. Assumes nothing.
use mathlib.Core.Path.{◌≡◌, refl}
use mathlib.Core.Bool.{Bool}
use mathlib.Core.List.{List, [], ◌∷◌, map}
use mathlib.Core.Logic.{⊎_elim}
use Prim.Native.Nat.{ℕ, zero, suc, ◌+◌, ◌-◌, ◌≤◌, ◌<◌}
use native.Mathlib.Omega.{arith}
use Rattle.counting.specs.Periodic.{owns}
use Rattle.counting.specs.Elements.{times}
use Rattle.counting.proofs.Cases.{lt_or_le}
use Rattle.counting.proofs.Counts.{count_zero, count_suc}
use Rattle.families.specs.Decoded.{selections}
use Rattle.sheets.specs.Sheet.{Reading}
use Rattle.sheets.proofs.Accepted.{Accepted}
use Rattle.sheets.proofs.Tiling.{file_none}
use Rattle.maps.specs.Selected.{ranks}

ranks_zero : (L : List (ℕ → Bool)) → ranks L 0 ≡ 0
unfolding ranks
ranks_zero [] = refl
ranks_zero (p ∷ L) = omega (arith, count_zero p, ranks_zero L)

-- they grow by the selections that have x
ranks_suc : (L : List (ℕ → Bool)) (x : ℕ) → ranks L (suc x) ≡ ranks L x + times L x
unfolding ranks times
ranks_suc [] x = refl
ranks_suc (p ∷ L) x = omega (arith, count_suc p x, ranks_suc L x)

-- where every offset from d on is in one selection, and none before d is in any
ranks_from : (L : List (ℕ → Bool)) (d : ℕ) → ((x : ℕ) → x < d → times L x ≡ 0) → ((x : ℕ) → d ≤ x → times L x ≡ 1) → (x : ℕ) → ranks L x ≡ x - d
ranks_from L d none once zero = omega (arith, ranks_zero L)
ranks_from L d none once (suc x) = ⊎_elim
    (λ l. omega (arith, ranks_suc L x, ranks_from L d none once x, none x l))
    (λ l. omega (arith, ranks_suc L x, ranks_from L d none once x, once x l))
    (lt_or_le x d)

-- THE RANKS OF x in all elements sum to what lies between the displacement and x; before the displacement both are 0
pub ranks_sum : (r : Reading) → Accepted r → let t = r.layout in (x : ℕ) → ranks (map (owns t.displacement r.size) (selections 4 t)) x ≡ x - t.displacement
ranks_sum r A = ranks_from _ r.layout.displacement (λ x. file_none (selections 4 r.layout) r.layout.displacement r.size x) A.file
