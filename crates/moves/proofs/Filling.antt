-- The loop of `fill_strides`: what is known of every owner at a place, and the table filled from there on. Assumes nothing.
use mathlib.Core.Path.{◌≡◌, refl, sym, ap, ◌∙◌}
use mathlib.Core.Bool.{Bool, true}
use mathlib.Core.List.{List}
use mathlib.Core.Logic.{⊎_elim}
use Prim.Native.Nat.{ℕ, ◌+◌, ◌-◌, ◌^◌, ◌≤◌, ◌<◌}
use native.Mathlib.Omega.{arith}
use lib.ListN.{length, get_or, set, length-set}
use lib.Seq.{get_or-set_same, get_or-set_other}
use borrow.Author.Tests.{eqb-true, eq-eqb, ne_eqb}
use Rattle.counting.proofs.Cases.{same_or_not}
use Rattle.moves.specs.declared.ahead.Stride.{Stride}
use Rattle.moves.specs.Strides.{stride_at, Ahead, AheadBy, around, Room}
use Rattle.moves.specs.Owning.{held_by, Nexts}
use Rattle.moves.proofs.Facing.{Facing, facing_turn, facing_wider, facing_longer, facing_near, facing_ahead}

-- owner o faces a run from u on and then its place in `nexts`; at first that is one of the next period
abbrev Owner : (owners : List ℕ) → (period : ℕ) → (nexts₀ : List ℕ) → (u run : ℕ) → (nexts : List ℕ) → (o : ℕ) → Type 0
Owner owners period nexts₀ u run nexts o = Facing (held_by owners o) period (get_or nexts₀ o 0 - period) u run (get_or nexts o 0)

-- .. `last` a run of `run` places and then `gap` of others, and every other owner a gap
pub record Faces (owners : List ℕ) (period : ℕ) (nexts₀ : List ℕ) (u last run gap : ℕ) (nexts : List ℕ) : Type 0 where
  pub same : length nexts ≡ length nexts₀
  pub there : last < length nexts
  pub here : Owner owners period nexts₀ u run nexts last
  pub apart : u + run + gap ≡ get_or nexts last 0
  pub others : (o : ℕ) → o < length nexts → (o ≡ last → ⊥) → Owner owners period nexts₀ u 0 nexts o

-- .. where `last` has the place before u
pub record Turned (owners : List ℕ) (period : ℕ) (nexts₀ : List ℕ) (u last run gap : ℕ) (nexts : List ℕ) : Type 0 where
  pub faces : Faces owners period nexts₀ u last run gap nexts
  pub is : last ≡ get_or owners (u - 1) 0

-- the table is filled from place u on
pub record Filling (owners : List ℕ) (period : ℕ) (nexts₀ : List ℕ) (u last run gap : ℕ) (nexts : List ℕ) (strides : List Stride) : Type 0 where
  pub faces : Faces owners period nexts₀ u last run gap nexts
  pub begun : (get_or owners (u - 1) 0 ≡ last → ⊥) → 0 < run
  pub room : Room period strides
  pub each : (o v : ℕ) → held_by owners o (get_or nexts₀ o 0 - period) ≡ true → u ≤ v → v < period → held_by owners o v ≡ true
      → AheadBy (around (held_by owners o) period) v period strides v

-- what the code asks to write down what place u - 1 faces
pub record Fitting (u run gap : ℕ) (strides : List Stride) : Type 0 where
  pub small : run + gap < 2 ^ 16
  pub held : u - 1 < length strides

-- the table looks ahead by what stands at a place
by_stride : {p : ℕ → Bool} {x period u : ℕ} {strides : List Stride} (stride : Stride) → Ahead p x (stride.run + 1) (stride.hop + 1)
    → stride.hop + 1 ≤ period → stride_at strides u ≡ stride → AheadBy p x period strides u
by_stride stride A short e = record { ahead = rw e A; short = rw e short }

module _ {owners : List ℕ} {period : ℕ} {nexts₀ : List ℕ} {u last run gap : ℕ} {nexts : List ℕ} {strides : List Stride}
    (F : Filling owners period nexts₀ u last run gap nexts strides) where
  abbrev v : ℕ
  v = u - 1

  abbrev owner : ℕ
  owner = get_or owners v 0

  -- ---- the run of `last` goes on before u
  pub filling_same : owner ≡ last → Turned owners period nexts₀ u last run gap nexts
  filling_same e = record { faces = F.faces; is = sym e }

  module _ (some : 0 < u) where
    v_inside : v < period
    v_inside = omega (arith, F.faces.here.inside)

    -- .. or it starts at u, and another owner has v
    module _ (N : Nexts owners period nexts₀) (other : owner ≡ last → ⊥) where
      abbrev nexts' : List ℕ
      nexts' = set nexts last (v + 1)

      owner_there : owner < length nexts
      owner_there = omega (arith, N.there v v_inside, F.faces.same)

      kept : (o : ℕ) → o < length nexts → (o ≡ last → ⊥) → Owner owners period nexts₀ u 0 nexts' o
      kept o l d = rw (get_or-set_other nexts last o (v + 1) 0 d) (F.faces.others o l d)

      ended : Owner owners period nexts₀ u 0 nexts' last
      ended =
          let at : get_or nexts' last 0 ≡ v + 1 = get_or-set_same nexts last (v + 1) 0 F.faces.there in
          rw (at ∙ (let e : v + 1 ≡ u = omega arith in e)) (facing_turn F.faces.here (F.begun other))

      pub filling_turn : Turned owners period nexts₀ u owner 0 (get_or nexts' owner 0 - v - 1) nexts'
      filling_turn =
          let long : length nexts' ≡ length nexts = length-set nexts last (v + 1) in
          let here : Owner owners period nexts₀ u 0 nexts' owner = kept owner owner_there other in
          record {
            faces = record {
              same = long ∙ F.faces.same;
              there = omega (arith, long, owner_there);
              here = here;
              apart = omega (arith, some, here.before);
              others = λ o l d. ⊎_elim (λ e. rw e ended) (λ e. kept o (omega (arith, long)) e) (same_or_not o last);
            };
            is = refl;
          }

    -- ---- one place back, to v
    module _ {last' run' gap' : ℕ} {nexts' : List ℕ} (T : Turned owners period nexts₀ u last' run' gap' nexts') where
      v_held : held_by owners last' v ≡ true
      v_held = eq-eqb owner last' (sym T.is)

      abbrev hop : ℕ
      hop = run' + gap'

      hop_short : hop + 1 ≤ period
      hop_short = omega (arith, T.faces.apart, facing_near T.faces.here some v_held)

      -- both numbers, less one, fit 16 bits, and the table has a place for them
      pub filling_fits : Fitting u run' gap' strides
      filling_fits = record { small = omega (arith, hop_short, F.room.short); held = omega (arith, v_inside, F.room.held) }

      module _ (stride : Stride) (its_run : stride.run ≡ run') (its_hop : stride.hop ≡ hop) where
        v_by : held_by owners last' (get_or nexts₀ last' 0 - period) ≡ true
            → AheadBy (around (held_by owners last') period) v period (set strides v stride) v
        v_by held =
            let is : hop ≡ get_or nexts' last' 0 - v - 1 = omega (arith, T.faces.apart, some) in
            by_stride stride
            (rw (its_run, its_hop, is) (facing_ahead T.faces.here some v_held held))
            (rw its_hop hop_short)
            (get_or-set_same strides v stride _ filling_fits.held)

        pub filling_next : Filling owners period nexts₀ v last' (run' + 1) gap' nexts' (set strides v stride)
        filling_next =
            let long : length (set strides v stride) ≡ length strides = length-set strides v stride in
            record {
              faces = record {
                same = T.faces.same;
                there = T.faces.there;
                here = facing_longer T.faces.here some v_held;
                apart = omega (arith, T.faces.apart, some);
                others = λ o l d. facing_wider (T.faces.others o l d) some refl (ne_eqb owner o (λ e. d (sym e ∙ sym T.is)));
              };
              begun = λ _. omega arith;
              room = record { held = omega (arith, long, F.room.held); short = F.room.short };
              each = λ o w held k l e. ⊎_elim
                  (λ d. let is : o ≡ last' = sym (eqb-true _ o e) ∙ ap (λ (z : ℕ). get_or owners z 0) d ∙ sym T.is in rw (d, is) (v_by (rw is at held)))
                  (λ d. let A = F.each o w held (omega arith) l e in
                  by_stride (stride_at strides w) A.ahead A.short (get_or-set_other strides v w stride _ d))
                  (same_or_not w v);
            }
