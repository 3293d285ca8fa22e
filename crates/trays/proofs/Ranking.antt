-- The loop of `fill_ranks`: how often each owner was met so far, and the ranks of the places behind. Assumes nothing.
use mathlib.Core.Path.{◌≡◌, refl, sym, ap, ◌∙◌}
use mathlib.Core.List.{List, ◌++◌}
use mathlib.Core.Logic.{⊎_elim}
use Prim.Native.Nat.{ℕ, ◌+◌, ◌^◌, ◌≤◌, ◌<◌}
use native.Mathlib.Numerals.{add-one}
use native.Mathlib.Omega.{arith}
use lib.ListN.{length, get_or, set, length-set, get_or-replicate, replicate, take, length-append, get_or-append}
use lib.Seq.{length-take-le, get_or-set_same, get_or-set_other}
use borrow.Author.Tests.{eq-eqb, ne_eqb}
use Rattle.counting.specs.Count.{count_below}
use Rattle.counting.proofs.Cases.{same_or_not}
use Rattle.counting.proofs.Counts.{count_zero, count_here, count_skip, count_le}
use Rattle.moves.specs.Owning.{held_by}
use Rattle.parts.specs.Tabled.{Ranked}
use Rattle.trays.specs.Tables.{CountedOk}

pub record Ranking (owners : List ℕ) (period : ℕ) (ranks₀ counts ranks : List ℕ) (u : ℕ) : Type 0 where
  pub ok : CountedOk owners period ranks₀
  pub inside : u ≤ period
  pub counts_same : length counts ≡ 17
  pub long : length ranks ≡ period
  pub met : (o : ℕ) → o < length counts → get_or counts o 0 ≡ count_below (held_by owners o) u
  pub each : (v : ℕ) → v < u → get_or ranks v 0 ≡ count_below (held_by owners (get_or owners v 0)) v

-- what the code asks to rank place u
pub record Rankable (owners counts ranks : List ℕ) (u : ℕ) : Type 0 where
  pub held : u < length owners
  pub there : get_or owners u 0 < length counts
  pub room : u < length ranks
  pub near : u < 2 ^ 16
  pub small : get_or counts (get_or owners u 0) 0 < 2 ^ 16

pub ranking_start : {owners : List ℕ} {period : ℕ} {ranks : List ℕ} → CountedOk owners period ranks
    → Ranking owners period ranks (replicate 17 0) (take period ranks) 0
ranking_start {owners} {period} {ranks} ok = record {
  ok = ok;
  inside = omega arith;
  counts_same = refl;
  long = length-take-le period ranks ok.room;
  met = λ o l. get_or-replicate {A = ℕ} 17 o 0 0 l ∙ sym (count_zero (held_by owners o));
  each = λ v l. absurd (omega arith);
}

module _ {owners : List ℕ} {period : ℕ} {ranks₀ counts ranks : List ℕ} {u : ℕ} (R : Ranking owners period ranks₀ counts ranks u) where
  -- ---- every place of the period, with what stands behind them
  pub ranking_end : (rest : List ℕ) → period ≤ u → Ranked owners period (ranks ++ rest)
  ranking_end rest all = record {
    held = omega (arith, length-append ranks rest, R.long);
    each = λ v l. get_or-append ranks rest 0 v (omega (arith, R.long)) ∙ R.each v (omega arith);
  }

  -- ---- one place more
  module _ (before : u < period) where
    abbrev o : ℕ
    o = get_or owners u 0

    abbrev rank : ℕ
    rank = get_or counts o 0

    pub ranking_asks : Rankable owners counts ranks u
    ranking_asks =
        let there : o < length counts = omega (arith, R.ok.there u before, R.counts_same) in
        record {
          held = omega (arith, R.ok.held);
          there = there;
          room = omega (arith, R.long);
          near = omega (arith, R.ok.short);
          small = omega (arith, R.met o there, count_le (held_by owners o) u, R.ok.short);
        }

    met_more : (p : ℕ) → p < length counts → get_or (set counts o (rank + 1)) p 0 ≡ count_below (held_by owners p) (u + 1)
    met_more p l = rw (add-one u) (⊎_elim
        (λ e. rw e (get_or-set_same counts o (rank + 1) 0 ranking_asks.there
        ∙ ap (λ (r : ℕ). r + 1) (R.met o ranking_asks.there)
        ∙ sym (count_here (held_by owners o) u (eq-eqb o o refl))))
        (λ d. get_or-set_other counts o p (rank + 1) 0 d ∙ R.met p l ∙ sym (count_skip (held_by owners p) u (ne_eqb o p (λ e. d (sym e)))))
        (same_or_not p o))

    pub ranking_next : Ranking owners period ranks₀ (set counts o (rank + 1)) (set ranks u rank) (u + 1)
    ranking_next = record {
      ok = R.ok;
      inside = omega arith;
      counts_same = length-set counts o (rank + 1) ∙ R.counts_same;
      long = length-set ranks u rank ∙ R.long;
      met = λ p l. met_more p (omega (arith, length-set counts o (rank + 1)));
      each = λ v l. ⊎_elim
          (λ e. rw e (get_or-set_same ranks u rank 0 ranking_asks.room ∙ R.met o ranking_asks.there))
          (λ d. get_or-set_other ranks u v rank 0 d ∙ R.each v (omega arith))
          (same_or_not v u);
    }
