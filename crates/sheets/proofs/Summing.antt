-- The loop of `pattern_size`: the elements' sizes, one after the other. Assumes nothing.
use mathlib.Core.Path.{◌≡◌, refl, sym}
use mathlib.Core.List.{List, [], ◌∷◌, ◌++◌}
use Prim.Native.Nat.{ℕ, ◌+◌, ◌*◌, ◌≤◌, ◌<◌}
use native.Mathlib.Nat.{zero-add}
use native.Mathlib.Numerals.{add-one}
use native.Mathlib.Omega.{arith}
use Rattle.counting.specs.Gather.{tabulated}
use Rattle.counting.proofs.Gathers.{tabulated_more}
use Rattle.families.specs.declared.Layout.{Layout}
use Rattle.families.specs.Forest.{Forest, size_of, RulesKept}
use Rattle.families.specs.Decoded.{tree_of, trees_of, LayoutOk}
use Rattle.families.proofs.Flats.{element_ruled, element_size, element_small}
use Rattle.sheets.specs.Pattern.{sizes}

-- one element more
sizes_more : (Fs : List Forest) (F : Forest) → sizes (Fs ++ (F ∷ [])) ≡ sizes Fs + size_of F
unfolding sizes
sizes_more [] F = omega arith
sizes_more (G ∷ Fs) F = omega (arith, sizes_more Fs F)

-- the sum is that of the first e elements, each of which selects 65,536 offsets at most
pub record Summed (t : Layout) (e sum : ℕ) : Type 0 where
  pub ok : LayoutOk 4 65535 t
  pub upto : e ≤ t.elements
  pub is : sum ≡ sizes (tabulated 0 e (tree_of 4 t))
  pub small : sum ≤ 65536 * e

pub summed_none : (t : Layout) → LayoutOk 4 65535 t → Summed t 0 0
unfolding tabulated sizes
summed_none t ok = record { ok = ok; upto = omega arith; is = refl; small = omega arith }

module _ {t : Layout} {e sum : ℕ} (S : Summed t e sum) where
  -- with room for one element more
  pub summed_small : sum ≤ 1048576
  summed_small = omega (arith, S.small, S.upto, S.ok.room)

  module _ (h : e < t.elements) where
    pub tree_ruled : RulesKept (tree_of 4 t e)
    tree_ruled = element_ruled 4 65535 t S.ok e h (omega arith)

    module _ (F : Forest) (lent : F ≡ tree_of 4 t e) (size : ℕ) (is : size ≡ size_of F) where
      pub size_small : size ≤ 65536
      size_small = element_small 4 65535 t S.ok e h F lent size is

      pub summed_next : Summed t (e + 1) (sum + size)
      summed_next = record {
        ok = S.ok;
        upto = omega (arith, h);
        is = rw (S.is, element_size 4 65535 t S.ok e h F lent size is, add-one e, tabulated_more 0 e (tree_of 4 t), zero-add e) (sym (sizes_more (tabulated 0 e (tree_of 4 t)) (tree_of 4 t e)));
        small = omega (arith, S.small, size_small);
      }

  pub summed_all : e ≡ t.elements → sum ≡ sizes (trees_of 4 t)
  unfolding trees_of
  summed_all all = rw all at S.is
