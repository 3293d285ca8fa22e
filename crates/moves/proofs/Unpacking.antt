-- The loop of `scatter_runs`: the file buffer is as it shall be up to where the walk stands, and as it was from there on. Assumes nothing.
use mathlib.Core.Path.{◌≡◌, refl, sym, ap, ◌∙◌}
use mathlib.Core.Bool.{Bool, true, false}
use mathlib.Core.List.{List, ◌++◌}
use mathlib.Core.Logic.{⊎_elim}
use Prim.Native.Nat.{ℕ, ◌+◌, ◌-◌, ◌≤◌, ◌<◌, min}
use native.Mathlib.Nat.{add-sub_of_le}
use native.Mathlib.Omega.{arith}
use lib.ListN.{length, get_or, take, drop, length-drop, get_or-append}
use lib.Seq.{get_or-take, get_or-drop, get_or-append-add, length-take-le, paste, length_paste_head, length-paste}
use Rattle.counting.specs.Count.{count_in}
use Rattle.counting.specs.Gather.{in_file, scattered_byte, scattered}
use Rattle.counting.proofs.Cases.{lt_or_le}
use Rattle.counting.proofs.Gathers.{tabulated_ext, tabulated_whole}
use Rattle.maps.specs.declared.Selection.{Selection}
use Rattle.moves.specs.declared.ahead.Stride.{Stride}
use Rattle.moves.specs.declared.walks.Walk.{Walk}
use Rattle.moves.specs.Strides.{stride_at, Strides, onwards}
use Rattle.moves.specs.Walks.{Stands, Begun}
use Rattle.moves.proofs.Striding.{packed_place, step_ahead, step_passes, step_fits, step_on}

-- ---- the bytes of d after n bytes of l were copied to it from `at` on
module _ (d l : List ℕ) (at n : ℕ) (fits : at + n ≤ length d) (held : n ≤ length l) where
  front : length (take at d ++ take n l) ≡ at + n
  front = length_paste_head d at l n (omega arith) held

  pasted_before : (i : ℕ) → i < at → get_or (paste d at l n) i 0 ≡ get_or d i 0
  pasted_before i h =
      get_or-append (take at d ++ take n l) (drop (at + n) d) 0 i (omega (arith, front))
      ∙ get_or-append (take at d) (take n l) 0 i (omega (arith, length-take-le at d (omega arith)))
      ∙ get_or-take at d i 0 h

  pasted_among : (j : ℕ) → j < n → get_or (paste d at l n) (at + j) 0 ≡ get_or l j 0
  pasted_among j h =
      let short : length (take at d) ≡ at = length-take-le at d (omega arith) in
      get_or-append (take at d ++ take n l) (drop (at + n) d) 0 (at + j) (omega (arith, front))
      ∙ ap (λ (i : ℕ). get_or (take at d ++ take n l) (i + j) 0) (sym short)
      ∙ get_or-append-add (take at d) (take n l) j 0
      ∙ get_or-take n l j 0 h

  pasted_past : (i : ℕ) → at + n ≤ i → get_or (paste d at l n) i 0 ≡ get_or d i 0
  pasted_past i h =
      let past : i ≡ length (take at d ++ take n l) + (i - (at + n)) = omega (arith, front) in
      ap (λ (j : ℕ). get_or (paste d at l n) j 0) past
      ∙ get_or-append-add (take at d ++ take n l) (drop (at + n) d) (i - (at + n)) 0
      ∙ get_or-drop (at + n) d (i - (at + n)) 0
      ∙ ap (λ (j : ℕ). get_or d j 0) (add-sub_of_le h)

pub record Unpacking (s : Selection) (p : ℕ → Bool) (a n : ℕ) (packed file₀ file : List ℕ) (w : Walk) : Type 0 where
  pub stands : Stands s p a n w
  pub long : length file ≡ n
  pub same : length file ≡ length file₀
  pub room : length packed ≡ count_in p a n
  pub done : (x : ℕ) → a ≤ x → x < a + n → x < a + w.at → in_file a file x ≡ scattered_byte p a packed file₀ x
  pub kept : (x : ℕ) → a + w.at ≤ x → in_file a file x ≡ in_file a file₀ x

pub unpacking_start : {s : Selection} {p : ℕ → Bool} {a : ℕ} {w : Walk} → Begun s p a w → (n : ℕ) (packed file : List ℕ) → length file ≡ n
    → length packed ≡ count_in p a n → Unpacking s p a n packed file file w
unpacking_start {s} {p} {a} {w} B n packed file long room = record {
  stands = B.stands n;
  long = long;
  same = refl;
  room = room;
  done = λ x h k l. rw (ap p (sym (add-sub_of_le h)) ∙ B.none (x - a) (omega arith)) refl;
  kept = λ x h. refl;
}

module _ {s : Selection} {p : ℕ → Bool} {a n : ℕ} {packed file₀ file : List ℕ} {w : Walk} (U : Unpacking s p a n packed file₀ file w) where
  pub unpacking_end : length file₀ ≤ w.at → file ≡ scattered p a n packed file₀
  unfolding scattered
  unpacking_end past = sym (tabulated_whole a n file U.long) ∙ tabulated_ext a n _ _ (λ x h k. U.done x h k (omega (arith, U.long, U.same)))

  -- one run more
  module _ {strides : List Stride} (T : Strides s p strides) (before : w.at < length file₀)
      (run : ℕ) (clipped : run ≡ min ((stride_at strides w.place).run + 1) (n - w.at)) where
    inside : w.at < n
    inside = omega (arith, U.long, U.same)

    -- what `copy_run` asks
    pub unpacking_fits : (w.packed + run ≤ length packed) × (w.at + run ≤ length file)
    unpacking_fits = let f = step_fits T U.stands inside run clipped in (omega (arith, f.1, U.room), omega (arith, f.0, U.long))

    held : run ≤ length (drop w.packed packed)
    held = omega (arith, length-drop w.packed packed, unpacking_fits.0)

    module _ (file' : List ℕ) (is : file' ≡ paste file w.at (drop w.packed packed) run) where
      byte_among : (x : ℕ) → a + w.at ≤ x → x < a + w.at + run → in_file a file' x ≡ scattered_byte p a packed file₀ x
      byte_among x h l =
          let A = step_ahead T U.stands inside run clipped in
          let j = x - (a + w.at) in
          let place : x - a ≡ w.at + j = omega arith in
          let owned : p x ≡ true = ap p (let e : x ≡ a + w.at + j = omega arith in e) ∙ A.all j (omega arith) in
          rw (owned, place, is, packed_place U.stands (step_passes T U.stands inside run clipped) (omega (arith, inside)) j (omega arith))
          (pasted_among file (drop w.packed packed) w.at run unpacking_fits.1 held j (omega arith) ∙ get_or-drop w.packed packed j 0)

      byte_past : (x : ℕ) → a + w.at + run ≤ x → in_file a file' x ≡ in_file a file₀ x
      byte_past x h =
          rw is (pasted_past file (drop w.packed packed) w.at run unpacking_fits.1 held (x - a) (omega arith)) ∙ U.kept x (omega arith)

      byte_before : (x : ℕ) → a ≤ x → x < a + w.at → in_file a file' x ≡ in_file a file x
      byte_before x h l = rw is (pasted_before file (drop w.packed packed) w.at run unpacking_fits.1 held (x - a) (omega arith))

      -- what lies between the run and the next keeps its byte
      byte_between : (x : ℕ) → x < a + n → a + w.at + run ≤ x → x < a + (w.at + ((stride_at strides w.place).hop + 1))
          → in_file a file' x ≡ scattered_byte p a packed file₀ x
      byte_between x k h l =
          let A = step_ahead T U.stands inside run clipped in
          let j = x - (a + w.at) in
          let other : p x ≡ false = ap p (let e : x ≡ a + w.at + j = omega arith in e) ∙ A.none j (omega arith) (omega arith) in
          rw other (byte_past x h)

      pub unpacking_next : (w' : Walk) → w' ≡ onwards s strides w run → Unpacking s p a n packed file₀ file' w'
      unpacking_next w' e =
          let length' : length file' ≡ length file = ap length is ∙ length-paste file w.at (drop w.packed packed) run unpacking_fits.1 held in
          let stands' = step_on T U.stands inside run clipped w' e in
          let at' : w'.at ≡ w.at + ((stride_at strides w.place).hop + 1) = ap (λ (v : Walk). v.at) e in
          record {
            stands = stands';
            long = length' ∙ U.long;
            same = length' ∙ U.same;
            room = U.room;
            done = λ x h k l. ⊎_elim
                (λ u. byte_before x h u ∙ U.done x h k u)
                (λ u. ⊎_elim (λ v. byte_among x u v) (λ v. byte_between x k v (omega arith)) (lt_or_le x (a + w.at + run)))
                (lt_or_le x (a + w.at));
            kept = λ x h. byte_past x (omega (arith, (step_ahead T U.stands inside run clipped).within));
          }
