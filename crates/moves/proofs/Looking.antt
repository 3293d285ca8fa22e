-- The tables of one period look ahead for the whole selection. Assumes nothing.
use mathlib.Core.Path.{◌≡◌, sym, ap, ◌∙◌, subst}
use mathlib.Core.Bool.{Bool, true, false, true≢false}
use mathlib.Core.List.{List, [], ◌∷◌}
use mathlib.Core.Logic.{⊎_elim}
use Prim.Native.Nat.{ℕ, zero, suc, ◌+◌, ◌-◌, ◌%◌, ◌≤◌, ◌<◌}
use native.Mathlib.Nat.{mod-lt, mod-eq_of_lt, mod-add-mod}
use native.Mathlib.Omega.{arith}
use lib.ListN.{get_or}
use Rattle.counting.specs.Periodic.{owns}
use Rattle.counting.proofs.Cases.{lt_or_le}
use Rattle.counting.proofs.Counts.{count_zero}
use Rattle.counting.proofs.Periods.{owns_none, owns_at, owns_periodic}
use Rattle.families.specs.Forest.{has}
use Rattle.families.specs.declared.Family.{Family}
use Rattle.maps.specs.declared.Selection.{Selection}
use Rattle.maps.specs.Selected.{families_of, belongs, Byte, SelectionOk}
use Rattle.maps.proofs.Mapped.{period_some}
use Rattle.runs.specs.Walking.{marked, tabled, FitsTable, Marks}
use Rattle.runs.proofs.Marked.{marks_of, table_ok, table_is}
use Rattle.moves.specs.declared.ahead.Stride.{Stride}
use Rattle.moves.specs.Strides.{Ahead, AheadBy, around, First, Filled, Strides}
use Rattle.moves.specs.Owning.{held_by, Nexts, AllFilled}
use Rattle.moves.proofs.Beginnings.{none_between}

-- what lies ahead of x in p lies ahead of u in g, where the two agree from there on
pub ahead_shifted : {p g : ℕ → Bool} {x u run far : ℕ} → ((y : ℕ) → p (x + y) ≡ g (u + y)) → Ahead g u run far → Ahead p x run far
ahead_shifted {p} {g} {x} {u} {run} {far} same A = record {
  some = A.some;
  within = A.within;
  all = λ y l. same y ∙ A.all y l;
  none = λ y k l. same y ∙ A.none y k l;
  next = same far ∙ A.next;
}

-- ---- a periodic selection
module _ (d P : ℕ) (q : ℕ → Bool) where
  abbrev p : ℕ → Bool
  p = owns d P q

  -- its first byte is the first picked place of the first period
  module _ (x : ℕ) (B : Byte p 0 x) where
    none_below : (z : ℕ) → z < x → p z ≡ false
    none_below z l = none_between p 0 0 x (sym (count_zero p)) B z (omega arith) l

    pub byte_from : d ≤ x
    byte_from = ⊎_elim (λ l. absurd (true≢false (sym B.0 ∙ owns_none d P q x l))) (λ l. l) (lt_or_le x d)

    first_inside : 0 < P → x - d < P
    first_inside some = ⊎_elim (λ l. l)
        (λ l. absurd (true≢false (sym B.0
        ∙ ap p (let e : x ≡ x - P + P = omega arith in e)
        ∙ owns_periodic d P q (x - P) (omega (arith, byte_from))
        ∙ none_below (x - P) (omega (arith, byte_from)))))
        (lt_or_le (x - d) P)

    picked_at : (y : ℕ) → y < P → q y ≡ p (d + y)
    picked_at y l = sym (owns_at d P q y ∙ ap q (mod-eq_of_lt l))

    pub byte_first : 0 < P → First q P (x - d)
    byte_first some =
        let inside = first_inside some in
        record {
          inside = inside;
          picked = picked_at (x - d) inside ∙ ap p (let e : d + (x - d) ≡ x = omega (arith, byte_from) in e) ∙ B.0;
          none = λ y l. picked_at y (omega (arith, inside)) ∙ none_below (d + y) (omega arith);
        }

  -- from an offset on it is as from its place in the period on
  module _ (x : ℕ) (after : d ≤ x) where
    pub from_place : (y : ℕ) → p (x + y) ≡ around q P ((x - d) % P + y)
    from_place y =
        ap p (let e : x + y ≡ d + (x - d + y) = omega arith in e) ∙ owns_at d P q (x - d + y) ∙ ap q (sym (mod-add-mod (x - d) P y))

    pub ahead_by_place : {strides : List Stride} → 0 < P → Filled q P strides → p x ≡ true → AheadBy p x P strides ((x - d) % P)
    ahead_by_place some F e =
        let here : q ((x - d) % P) ≡ true = sym (owns_at d P q (x - d)) ∙ ap p (let z : d + (x - d) ≡ x = omega arith in z) ∙ e in
        let A = F.each ((x - d) % P) (mod-lt (x - d) some) here in
        record { ahead = ahead_shifted from_place A.ahead; short = A.short }

-- ---- marks as a table of owners: 1 has what is marked, and 0 the rest. By owner, where it may start in the second of two periods
abbrev nexts_by : (period first : ℕ) → List ℕ
nexts_by period first = period ∷ ((period + first) ∷ [])

module _ (marks : List ℕ) {period first : ℕ} (F : First (marked marks) period first) where
  marks_next : (o : ℕ) → o < 2 → let next = get_or (nexts_by period first) o 0 in
      (period ≤ next) × ((next < period + period) × ((y : ℕ) → y < next - period → held_by marks o y ≡ false))
  marks_next zero l = (omega arith, (omega (arith, F.inside), λ y h. absurd (omega arith)))
  marks_next (suc zero) l = (omega arith, (omega (arith, F.inside), λ y h. F.none y (omega arith)))
  marks_next (suc (suc o)) l = absurd (omega arith)

  marks_nexts : ((u : ℕ) → u < period → Marks marks u) → Nexts marks period (nexts_by period first)
  marks_nexts M = record {
    some = omega (arith, F.inside);
    held = omega (arith, F.inside, (M (period - 1) (omega (arith, F.inside))).held);
    there = λ u l. omega (arith, (M u l).bit);
    past = λ o l. (marks_next o l).0;
    near = λ o l. (marks_next o l).1.0;
    none = λ o y l. (marks_next o l).1.1 y;
  }

  marks_filled : {strides : List Stride} → AllFilled marks period (nexts_by period first) strides → Filled (marked marks) period strides
  marks_filled A = A.each 1 (ap (marked marks) (let e : period + first - period ≡ first = omega arith in e) ∙ F.picked)

-- ---- `look_ahead`: the marks of a selection stand for it
module _ {s : Selection} {families : List Family} (ok : SelectionOk s families) (x : ℕ) (B : Byte (belongs s families) 0 x) where
  pub look_from : s.from ≤ x
  unfolding belongs
  look_from = byte_from s.from s.period (has (families_of s families)) x B

  pub look_near : x - s.from < s.period
  unfolding belongs
  look_near = (byte_first s.from s.period (has (families_of s families)) x B (period_some ok)).inside

  module _ {n : ℕ} (fits : FitsTable s families n) (marks : List ℕ) (is : marks ≡ marks_of (families_of s families) n) where
    look_first : First (marked marks) s.period (x - s.from)
    unfolding tabled
    look_first =
        byte_first s.from s.period (marked marks) x (subst (λ (p : ℕ → Bool). Byte p 0 x) (sym (table_is ok fits marks is)) B) (period_some ok)

    pub look_nexts : Nexts marks s.period (nexts_by s.period (x - s.from))
    look_nexts = marks_nexts marks look_first (table_ok ok fits marks is).marks

    strides_tabled : {strides : List Stride} → Filled (marked marks) s.period strides → Strides s (tabled s marks) strides
    unfolding tabled
    strides_tabled F = record {
      some = period_some ok;
      held = F.held;
      each = λ z after e. ahead_by_place s.from s.period (marked marks) z after (period_some ok) F e;
    }

    pub look_strides : {strides : List Stride} → AllFilled marks s.period (nexts_by s.period (x - s.from)) strides
        → Strides s (belongs s families) strides
    look_strides A = rw (table_is ok fits marks is) at (strides_tabled (marks_filled marks look_first A))
