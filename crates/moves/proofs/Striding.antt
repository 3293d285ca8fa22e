-- One step of a walk, from a selected run to the next or inside it: what the code asks for it, and where it then stands. Assumes nothing.
use mathlib.Core.Path.{◌≡◌, refl, sym, ap, ap₂, ◌∙◌}
use mathlib.Core.Bool.{Bool}
use mathlib.Core.List.{List}
use mathlib.Core.Logic.{⊎_elim}
use Prim.Native.Nat.{ℕ, ◌+◌, ◌-◌, ◌%◌, ◌^◌, ◌≤◌, ◌<◌, min}
use native.Mathlib.Nat.{mod-lt, mod-add-mod}
use native.Mathlib.Omega.{arith}
use lib.ListN.{length}
use Rattle.counting.specs.Count.{count_in}
use Rattle.counting.proofs.Cases.{lt_or_le}
use Rattle.counting.proofs.Counts.{count_all, count_in_split, count_in_le}
use Rattle.families.specs.declared.Family.{Family}
use Rattle.maps.specs.declared.Selection.{Selection}
use Rattle.maps.specs.declared.window.Window.{Window}
use Rattle.maps.specs.Selected.{belongs}
use Rattle.moves.specs.declared.ahead.Stride.{Stride}
use Rattle.moves.specs.declared.walks.Walk.{Walk}
use Rattle.moves.specs.Strides.{stride_at, Ahead, AheadBy, Strides, OnwardOk, onwards, furthers}
use Rattle.moves.specs.Walks.{Stands, Carries}
use Rattle.moves.proofs.Beginnings.{furthers_on, furthers_in}
use Rattle.moves.proofs.Passing.{Passes, count_pass, pass_front, run_passes}

-- the offset `far` further on, and what is left of the window from there on
pub step_there : (a : ℕ) (w : Walk) (far : ℕ) → a + w.at + far ≡ a + (w.at + far)
step_there a w far = omega arith

pub step_left : (n : ℕ) (w : Walk) (far : ℕ) → n - w.at - far ≡ n - (w.at + far)
step_left n w far = omega arith

-- `far` offsets further on, with m bytes more
abbrev pub stepped : Selection → Walk → (far m : ℕ) → Walk
stepped s w far m = record { at = w.at + far; place = (w.place + far) % s.period; packed = w.packed + m }

-- two steps are one
pub stepped_twice : (s : Selection) (w : Walk) (k far m : ℕ) → k ≤ far → k ≤ m → stepped s (stepped s w k k) (far - k) (m - k) ≡ stepped s w far m
stepped_twice s w k far m on most =
    let at : w.at + k + (far - k) ≡ w.at + far = omega arith in
    let packed : w.packed + k + (m - k) ≡ w.packed + m = omega arith in
    let place : ((w.place + k) % s.period + (far - k)) % s.period ≡ (w.place + far) % s.period =
    mod-add-mod (w.place + k) s.period (far - k)
    ∙ ap (λ (z : ℕ). z % s.period) (let z : w.place + k + (far - k) ≡ w.place + far = omega arith in z) in
    rw (at, place, packed) refl

-- ---- a step over selected offsets
module _ {s : Selection} {p : ℕ → Bool} {a n : ℕ} {w : Walk} (W : Stands s p a n w) {m far : ℕ} (S : Passes p (a + w.at) (n - w.at) m far) where
  counted : m + count_in p (a + w.at + far) (n - w.at - far) ≡ count_in p (a + w.at) (n - w.at)
  counted = sym (count_pass S)

  -- the packed buffer has them
  pub pass_fits : w.packed + m ≤ count_in p a n
  pass_fits = omega (arith, counted, W.left)

  pub pass_stands : (w' : Walk) → w' ≡ stepped s w far m → Stands s p a n w'
  pass_stands w' e =
      rw e (record {
        after = W.after;
        here = ap p (sym (step_there a w far)) ∙ S.next;
        place = ap (λ (u : ℕ). (u + far) % s.period) W.place
            ∙ mod-add-mod (a + w.at - s.from) s.period far
            ∙ ap (λ (z : ℕ). z % s.period) (let z : a + w.at - s.from + far ≡ a + (w.at + far) - s.from = omega (arith, W.after) in z);
        left = omega (arith, counted, W.left, ap₂ (count_in p) (step_there a w far) (step_left n w far));
      })

  -- one of them stands in the packed buffer as many places on as in the file
  pub packed_place : w.at ≤ n → (j : ℕ) → j < m → count_in p a (w.at + j) ≡ w.packed + j
  unfolding count_in
  packed_place inside j l =
      let split = count_in_split p a w.at (n - w.at) in
      let all : count_in p (a + w.at) j ≡ j = count_all (λ y. p (a + w.at + y)) j (λ y k. S.all y (omega arith)) in
      omega (arith, count_in_split p a w.at j, all, W.left, split, ap (count_in p a) (let e : w.at + (n - w.at) ≡ n = omega arith in e))

-- ---- by the tables
module _ {s : Selection} {p : ℕ → Bool} {strides : List Stride} {a n : ℕ} {w : Walk}
    (T : Strides s p strides) (W : Stands s p a n w) (inside : w.at < n) where
  here : AheadBy p (a + w.at) s.period strides w.place
  here = rw W.place (T.each (a + w.at) (omega (arith, W.after)) W.here)

  place_inside : w.place < s.period
  place_inside = rw W.place (mod-lt (a + w.at - s.from) T.some)

  step_held : w.place < length strides
  step_held = omega (arith, place_inside, T.held)

  module _ (run : ℕ) (clipped : run ≡ min ((stride_at strides w.place).run + 1) (n - w.at)) where
    abbrev far : ℕ
    far = (stride_at strides w.place).hop + 1

    pub step_ahead : Ahead p (a + w.at) ((stride_at strides w.place).run + 1) far
    step_ahead = here.ahead

    pub step_passes : Passes p (a + w.at) (n - w.at) run far
    step_passes = run_passes step_ahead (n - w.at) run clipped

    -- both buffers have the run
    pub step_fits : (w.at + run ≤ n) × (w.packed + run ≤ count_in p a n)
    step_fits = (omega arith, pass_fits W step_passes)

    step_asks : n ≤ 2 ^ 40 → OnwardOk s strides w run
    step_asks near = record {
      held = omega (arith, place_inside, T.held);
      inside = place_inside;
      short = here.short;
      near = omega arith;
      few = omega (arith, step_fits.1, count_in_le p a n);
    }

    pub step_on : (w' : Walk) → w' ≡ onwards s strides w run → Stands s p a n w'
    step_on = pass_stands W step_passes

    -- over the first `len` of the run: to a later one of it, or to the next run
    pub further_passes : (len : ℕ) (w' : Walk) → w' ≡ furthers s strides w run len
        → (to : ℕ) × Passes p (a + w.at) (n - w.at) (min len run) to × (w' ≡ stepped s w to (min len run))
    further_passes len w' e = ⊎_elim
        (λ l.
        let some : min len run ≡ len = omega arith in
        (len, rw some (pass_front step_passes len l), e ∙ furthers_in s strides w run len l ∙ rw some refl))
        (λ l.
        let all : min len run ≡ run = omega arith in
        (far, rw all step_passes, e ∙ furthers_on s strides w run len l ∙ rw all refl))
        (lt_or_le len run)

-- ---- what the code asks on its way over a window
module _ {s : Selection} {families : List Family} {window : Window} {n k : ℕ} (C : Carries s families window n k) where
  pub start_near : window.start.0 < 2 ^ 40
  start_near = omega (arith, C.some, window.ok.near)

  module _ {strides : List Stride} {w : Walk} (T : Strides s (belongs s families) strides)
      (W : Stands s (belongs s families) window.start.0 (window.end.0 - window.start.0) w) (inside : w.at < n) where
    before : w.at < window.end.0 - window.start.0
    before = omega (arith, C.buffers.file)

    pub run_held : w.place < length strides
    run_held = step_held T W before

    module _ (run : ℕ) (clipped : run ≡ min ((stride_at strides w.place).run + 1) (n - w.at)) where
      pub clipped_here : run ≡ min ((stride_at strides w.place).run + 1) (window.end.0 - window.start.0 - w.at)
      clipped_here = rw C.buffers.file at clipped

      pub onward_asks : OnwardOk s strides w run
      onward_asks = step_asks T W before run clipped_here (omega (arith, window.ok.near))
