-- The loop of `gather_runs`: what is packed so far and what is left to gather make the whole. Assumes nothing.
use mathlib.Core.Path.{◌≡◌, refl, sym, ap, ap₂, ◌∙◌}
use mathlib.Core.Bool.{Bool}
use mathlib.Core.List.{List, ◌++◌, append_assoc, append-nil}
use Prim.Native.Nat.{ℕ, ◌+◌, ◌-◌, ◌≤◌, ◌<◌, min}
use native.Mathlib.Omega.{arith}
use lib.ListN.{length, get_or, take, drop, length-drop}
use lib.Seq.{take_all, paste, take-paste, length-paste}
use Rattle.counting.specs.Count.{count_in}
use Rattle.counting.specs.Gather.{in_file, gathered, tabulated}
use Rattle.counting.proofs.Counts.{count_in_none}
use Rattle.counting.proofs.Gathers.{tabulated_part, gathered_none, gathered_skip}
use Rattle.maps.specs.declared.Selection.{Selection}
use Rattle.moves.specs.declared.ahead.Stride.{Stride}
use Rattle.moves.specs.declared.walks.Walk.{Walk}
use Rattle.moves.specs.Strides.{stride_at, Strides, onwards}
use Rattle.moves.specs.Walks.{Stands, Begun}
use Rattle.moves.proofs.Passing.{Passes, gathered_pass}
use Rattle.moves.proofs.Striding.{step_there, step_left, stepped, pass_fits, pass_stands, step_passes, step_fits}

-- the bytes f of p's numbers are packed up to where the walk stands
pub record Packing (s : Selection) (p : ℕ → Bool) (a n : ℕ) (f : ℕ → ℕ) (packed₀ packed : List ℕ) (w : Walk) : Type 0 where
  pub stands : Stands s p a n w
  pub same : length packed ≡ length packed₀
  pub room : length packed ≡ count_in p a n
  pub whole : gathered p a n f ≡ take w.packed packed ++ gathered p (a + w.at) (n - w.at) f

pub packing_start : {s : Selection} {p : ℕ → Bool} {a : ℕ} {w : Walk} → Begun s p a w → (n : ℕ) (f : ℕ → ℕ) (packed : List ℕ)
    → length packed ≡ count_in p a n → Packing s p a n f packed packed w
packing_start {s} {p} {a} {w} B n f packed room = record {
  stands = B.stands n;
  same = refl;
  room = room;
  whole = rw B.first (gathered_skip p a w.at n f B.none);
}

module _ {s : Selection} {p : ℕ → Bool} {a n : ℕ} {f : ℕ → ℕ} {packed₀ packed : List ℕ} {w : Walk} (P : Packing s p a n f packed₀ packed w) where
  -- nothing is left
  pub packing_end : n ≤ w.at → packed ≡ gathered p a n f
  packing_end past =
      let none : n - w.at ≡ 0 = omega arith in
      let all : w.packed ≡ length packed = omega (arith, P.room, P.stands.left, ap (count_in p (a + w.at)) none, count_in_none p (a + w.at)) in
      sym (P.whole
      ∙ ap₂ (λ (u v : List ℕ). u ++ v) (take_all w.packed packed (omega arith)) (gathered_none p (a + w.at) (n - w.at) f none)
      ∙ append-nil packed)

  -- one step more, over m numbers
  module _ {m far : ℕ} (S : Passes p (a + w.at) (n - w.at) m far) where
    pub packing_room : w.packed + m ≤ length packed
    packing_room = omega (arith, pass_fits P.stands S, P.room)

    pub packing_on : (packed' : List ℕ) → length packed' ≡ length packed
        → take (w.packed + m) packed' ≡ take w.packed packed ++ tabulated (a + w.at) m f → (w' : Walk) → w' ≡ stepped s w far m
        → Packing s p a n f packed₀ packed' w'
    packing_on packed' kept packs w' e =
        let bytes = tabulated (a + w.at) m f in
        let rest = gathered p (a + (w.at + far)) (n - (w.at + far)) f in
        let left : gathered p (a + w.at) (n - w.at) f ≡ bytes ++ rest =
        gathered_pass S f ∙ ap₂ (λ (x k : ℕ). bytes ++ gathered p x k f) (step_there a w far) (step_left n w far) in
        record {
          stands = pass_stands P.stands S w' e;
          same = kept ∙ P.same;
          room = kept ∙ P.room;
          whole = rw e (P.whole
              ∙ ap (λ (v : List ℕ). take w.packed packed ++ v) left
              ∙ sym (append_assoc (take w.packed packed) bytes rest)
              ∙ ap (λ (u : List ℕ). u ++ rest) (sym packs));
        }

    -- their bytes are copied from a list that has them from k on
    pub packing_copied : (l : List ℕ) (k : ℕ) → k + m ≤ length l → tabulated (a + w.at) m f ≡ take m (drop k l)
        → (packed' : List ℕ) → packed' ≡ paste packed w.packed (drop k l) m → (w' : Walk) → w' ≡ stepped s w far m
        → Packing s p a n f packed₀ packed' w'
    packing_copied l k held bytes packed' is w' e =
        let long : m ≤ length (drop k l) = omega (arith, length-drop k l) in
        packing_on packed'
        (ap length is ∙ length-paste packed w.packed (drop k l) m packing_room long)
        (ap (take (w.packed + m)) is
        ∙ take-paste packed w.packed (drop k l) m (omega (arith, packing_room)) long
        ∙ ap (λ (v : List ℕ). take w.packed packed ++ v) (sym bytes))
        w' e

-- ---- the bytes are a file buffer's
module _ {s : Selection} {p : ℕ → Bool} {a n : ℕ} {packed₀ packed : List ℕ} {w : Walk} (file : List ℕ) (P : Packing s p a n (in_file a file) packed₀ packed w)
    (long : length file ≡ n) {strides : List Stride} (T : Strides s p strides) (before : w.at < length file)
    (run : ℕ) (clipped : run ≡ min ((stride_at strides w.place).run + 1) (n - w.at)) where
  inside : w.at < n
  inside = omega arith

  -- what `copy_run` asks
  pub gather_fits : (w.at + run ≤ length file) × (w.packed + run ≤ length packed)
  gather_fits = let f = step_fits T P.stands inside run clipped in (omega (arith, f.0), omega (arith, f.1, P.room))

  pub gather_next : (packed' : List ℕ) → packed' ≡ paste packed w.packed (drop w.at file) run → (w' : Walk) → w' ≡ onwards s strides w run
      → Packing s p a n (in_file a file) packed₀ packed' w'
  gather_next =
      packing_copied P (step_passes T P.stands inside run clipped) file w.at gather_fits.0
      (tabulated_part (a + w.at) run (in_file a file) file w.at gather_fits.0
      (λ y l. ap (λ (i : ℕ). get_or file i 0) (let e : a + w.at + y - a ≡ w.at + y = omega arith in e)))
