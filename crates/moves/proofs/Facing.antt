-- What lies ahead of a place of a period: the rest of a run, a gap, and the next run. From the last place back to the first. Assumes nothing.
use mathlib.Core.Path.{◌≡◌, refl, sym, ap, ◌∙◌}
use mathlib.Core.Bool.{Bool, true, false, true≢false}
use mathlib.Core.Logic.{⊎_elim}
use Prim.Native.Nat.{ℕ, zero, suc, ◌+◌, ◌-◌, ◌≤◌, ◌<◌}
use native.Mathlib.Nat.{add-zero, mod-eq_of_lt, add-mod_right}
use native.Mathlib.Omega.{arith}
use Rattle.counting.proofs.Cases.{lt_or_le, same_or_not}
use Rattle.moves.specs.Strides.{Ahead, around}

-- from place u on: a run that ends in this period, a gap, and then `next`, of this period or of the next, which is picked if `first` is
pub record Facing (q : ℕ → Bool) (period first u run next : ℕ) : Type 0 where
  pub inside : u + run ≤ period
  pub before : u + run ≤ next
  pub all : (y : ℕ) → y < run → around q period (u + y) ≡ true
  pub none : (z : ℕ) → u + run ≤ z → z < next → around q period z ≡ false
  pub there : q first ≡ true → around q period next ≡ true

module _ (q : ℕ → Bool) (period : ℕ) where
  around_at : (u : ℕ) → u < period → around q period u ≡ q u
  around_at u h = ap q (mod-eq_of_lt h)

  around_turn : (z y : ℕ) → z ≡ y + period → around q period z ≡ around q period y
  around_turn z y e = ap (around q period) e ∙ ap q (add-mod_right y period)

module _ {q : ℕ → Bool} {period first u run next : ℕ} (F : Facing q period first u run next) where
  -- ---- the run from u on is the next one for what comes before it
  pub facing_turn : 0 < run → Facing q period first u 0 u
  facing_turn some = record {
    inside = omega (arith, F.inside);
    before = omega arith;
    all = λ y l. absurd (omega arith);
    none = λ z k l. absurd (omega arith);
    there = λ _. ap (around q period) (sym (add-zero u)) ∙ F.all 0 some;
  }

  -- ---- one place back, to v
  module _ (some : 0 < u) where
    abbrev v : ℕ
    v = u - 1

    v_inside : v < period
    v_inside = omega (arith, F.inside)

    -- v is not picked: the gap is one wider
    pub facing_wider : run ≡ 0 → q v ≡ false → Facing q period first v 0 next
    facing_wider ended left = record {
      inside = omega (arith, v_inside);
      before = omega (arith, F.before);
      all = λ y l. absurd (omega arith);
      none = λ z k l. ⊎_elim
          (λ d. ap (around q period) d ∙ around_at q period v v_inside ∙ left)
          (λ d. F.none z (omega arith) l)
          (same_or_not z v);
      there = F.there;
    }

    -- v is picked: the run is one longer
    module _ (picked : q v ≡ true) where
      v_picked : around q period v ≡ true
      v_picked = around_at q period v v_inside ∙ picked

      longer : (y : ℕ) → y < run + 1 → around q period (v + y) ≡ true
      longer zero l = ap (around q period) (add-zero v) ∙ v_picked
      longer (suc y) l = ap (around q period) (let e : v + suc y ≡ u + y = omega arith in e) ∙ F.all y (omega arith)

      pub facing_longer : Facing q period first v (run + 1) next
      facing_longer = record {
        inside = omega (arith, F.inside);
        before = omega (arith, F.before);
        all = longer;
        none = λ z k l. F.none z (omega arith) l;
        there = F.there;
      }

      -- a period later v is picked again, so that the next place is no further
      pub facing_near : next ≤ v + period
      facing_near = ⊎_elim
          (λ l. absurd (true≢false (
          sym (around_turn q period (v + period) v refl ∙ v_picked) ∙ F.none (v + period) (omega (arith, F.inside)) l)))
          (λ l. l)
          (lt_or_le (v + period) next)

      pub facing_ahead : q first ≡ true → Ahead (around q period) v (run + 1) (next - v - 1 + 1)
      facing_ahead e = record {
        some = omega arith;
        within = omega (arith, F.before);
        all = longer;
        none = λ y k l. F.none (v + y) (omega arith) (omega (arith, F.before));
        next = ap (around q period) (let z : v + (next - v - 1 + 1) ≡ next = omega (arith, F.before) in z) ∙ F.there e;
      }
