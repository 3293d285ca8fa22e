-- The loop of `list_runs`: gaps are passed over and runs handed on, and what is handed on so far and what is left make the whole. Assumes nothing.
use mathlib.Core.Path.{◌≡◌, refl, sym, ap, ◌∙◌}
use mathlib.Core.Bool.{Bool, true, not}
use mathlib.Core.List.{List, [], ◌∷◌}
use Prim.Native.Nat.{ℕ, ◌+◌, ◌-◌, ◌^◌, ◌≤◌, ◌<◌}
use native.Mathlib.Omega.{arith}
use lib.ListN.{length}
use Rattle.counting.specs.Count.{count_below, stretch}
use Rattle.counting.specs.Runs.{Run, runs_of}
use Rattle.counting.proofs.Stretches.{stretch_within}
use Rattle.counting.proofs.RunSteps.{first_some, runs_first, runs_gap, gap_ends}
use Rattle.runs.specs.Listing.{both, shared_runs, handed, Filling, filled, with_run, added}
use Rattle.runs.proofs.Fillings.{length_with_run}

handed_none : {S : Type 0} (add : S → Run → S) (t : S) → handed add t [] ≡ t
unfolding handed
handed_none add t = refl

handed_one : {S : Type 0} (add : S → Run → S) (t : S) (r : Run) (rs : List Run) → handed add t (r ∷ rs) ≡ handed add (add t r) rs
unfolding handed
handed_one add t r rs = refl

-- an empty window has no runs
runs_empty : (p : ℕ → Bool) (a n : ℕ) → n ≡ 0 → runs_of p a n ≡ []
unfolding runs_of
runs_empty p a n e = rw e refl

-- the runs from x on, handed on to a list
abbrev fold : (p q : ℕ → Bool) → Filling → (x end : ℕ) → Filling
fold p q t x end = handed (added p q) t (shared_runs p q x end)

-- `list` holds `runs` runs, those from `first` on, and x starts the next
pub record Handing (p q : ℕ → Bool) (end : ℕ) (old : List ℕ) (first : ℕ) (list : List ℕ) (runs x : ℕ) : Type 0 where
  pub most : x ≤ end
  pub near : end ≤ 2 ^ 40
  pub few : runs ≤ x
  pub starts : x < end → both p q x ≡ true
  pub same : length list ≡ length old
  pub whole : fold p q (filled list runs) x end ≡ fold p q (filled old 0) first end

module _ (p q : ℕ → Bool) (end : ℕ) where
  -- ---- a gap, from x to y
  module _ (x y : ℕ) (window : x ≤ end) (up_to_lem : y ≡ x + stretch (λ z. not (both p q z)) x (end - x)) where
    gone : (x ≤ y) × (y ≤ end)
    gone = stretch_within (λ z. not (both p q z)) x y end window up_to_lem

    none_handed : (t : Filling) → fold p q t x end ≡ fold p q t y end
    none_handed t = ap (handed (added p q) t) (runs_gap (both p q) x y end window up_to_lem)

    pub handing_first : end ≤ 2 ^ 40 → (old : List ℕ) → Handing p q end old y old 0 y
    handing_first near old =
        record { most = gone.1; near = near; few = omega arith; starts = gap_ends (both p q) x y end window up_to_lem; same = refl; whole = refl }

    -- the window is over
    pub handing_all : {old list : List ℕ} {runs z : ℕ} → Handing p q end old y list runs z → end ≤ z → filled list runs ≡ fold p q (filled old 0) x end
    handing_all {old} {list} {runs} {z} H over =
        sym (ap (handed (added p q) (filled list runs)) (runs_empty (both p q) z (end - z) (omega arith)) ∙ handed_none (added p q) _)
        ∙ H.whole
        ∙ sym (none_handed (filled old 0))

  -- ---- one run more, from x to y, and the gap behind it, to z
  module _ {old : List ℕ} {first : ℕ} {list : List ℕ} {runs x : ℕ} (H : Handing p q end old first list runs x) (inside : x < end)
      (y : ℕ) (up_to_lem : y ≡ x + stretch (both p q) x (end - x)) where
    pub ran : (x < y) × (y ≤ end)
    ran = (first_some (both p q) x y end inside (H.starts inside) up_to_lem, (stretch_within (both p q) x y end H.most up_to_lem).1)

    module _ (z : ℕ) (gap : z ≡ y + stretch (λ w. not (both p q w)) y (end - y)) where
      pub further : x < z
      further = omega (arith, ran, gone y z ran.1 gap)

      -- the ranks of x in its four slots
      module _ (rank1 rank2 : ℕ) (one : rank1 ≡ count_below p x) (two : rank2 ≡ count_below q x) (list' : List ℕ) (runs' : ℕ)
          (wrote : filled list' runs' ≡ filled (with_run list runs (x ∷ (y - x) ∷ rank1 ∷ rank2 ∷ [])) (runs + 1)) where
        run_added : filled list' runs' ≡ added p q (filled list runs) (x, y - x)
        unfolding added
        run_added = wrote ∙ rw (one, two) refl

        run_handed : fold p q (filled list runs) x end ≡ fold p q (filled list' runs') y end
        run_handed =
            ap (handed (added p q) (filled list runs)) (runs_first (both p q) x y end inside (H.starts inside) up_to_lem)
            ∙ handed_one (added p q) _ _ _
            ∙ ap (λ (t : Filling). fold p q t y end) (sym run_added)

        pub handing_next : Handing p q end old first list' runs' z
        handing_next = record {
          most = (gone y z ran.1 gap).1;
          near = H.near;
          few = omega (arith, further, H.few, ap (λ (t : Filling). t.runs) wrote);
          starts = gap_ends (both p q) y z end ran.1 gap;
          same = ap (λ (t : Filling). length t.slots) wrote ∙ length_with_run _ _ _ _ _ _ ∙ H.same;
          whole = sym (run_handed ∙ none_handed y z ran.1 gap (filled list' runs')) ∙ H.whole;
        }
