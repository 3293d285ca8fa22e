-- One side of a walk: what its place and its rank mean, and one offset further. Assumes nothing.
use mathlib.Core.Path.{◌≡◌, refl, sym}
use mathlib.Core.List.{List}
use mathlib.Core.Logic.{⊎_elim}
use Prim.Native.Nat.{ℕ, ◌+◌, ◌-◌, ◌≤◌}
use native.Mathlib.Nat.{mod-lt}
use native.Mathlib.Numerals.{add-one}
use native.Mathlib.Omega.{arith}
use lib.Dec.{eqb}
use lib.ListN.{get_or}
use borrow.Author.Tests.{eq-eqb, ne_eqb, le-leb}
use Rattle.counting.specs.Count.{bit}
use Rattle.counting.proofs.Cases.{lt_or_le}
use Rattle.counting.proofs.Counts.{count_suc, count_le}
use Rattle.counting.proofs.Periods.{place_next}
use Rattle.maps.specs.declared.Selection.{Selection}
use Rattle.runs.specs.declared.walks.Side.{Side}
use Rattle.runs.specs.Walking.{marked, Marks, tabled, Stands, next_side}

-- ---- marks are 0 or 1, so they count
mark_bit : (v : ℕ) → v ≤ 1 → bit (eqb v 1) ≡ v
mark_bit v h = ⊎_elim
    (λ l. rw (ne_eqb v 1 (λ e. omega arith)) (omega arith))
    (λ l. rw (eq-eqb v 1 (omega arith)) (omega arith))
    (lt_or_le v 1)

-- ---- a side that stands at x
module _ {s : Selection} {table : List ℕ} {x : ℕ} {t : Side} (S : Stands s table x t) where
  pub side_marks : Marks table t.place
  side_marks = S.ok.marks t.place (rw S.place (mod-lt (x - s.from) S.ok.some))

  pub rank_small : t.rank.0 ≤ x
  rank_small = omega (arith, S.rank, count_le (tabled s table) x)

  -- x is selected where the place is marked
  pub selected_here : tabled s table x ≡ marked table t.place
  unfolding tabled
  selected_here = rw (le-leb s.from x S.after, S.place) refl

  pub next_stands : (u : Side) → u ≡ next_side table s.period t → Stands s table (x + 1) u
  next_stands u e = let past : x + 1 - s.from ≡ x - s.from + 1 = omega (arith, S.after) in rw e (record {
    ok = S.ok;
    after = omega (arith, S.after);
    place = rw (past, S.place) (sym (place_next (x - s.from) s.period S.ok.some));
    rank = rw (add-one x, count_suc, selected_here, mark_bit (get_or table t.place 0) side_marks.bit, S.rank) refl;
  })
