-- Chunks of a run that follow or overlap each other make up the run: one law for a byte and one for chunks. Assumes nothing.
use mathlib.Core.Path.{◌≡◌, refl, sym, ap, ◌∙◌}
use mathlib.Core.List.{List, [], ◌∷◌, ◌++◌}
use Prim.Native.Nat.{ℕ, ◌+◌, ◌≤◌, ◌<◌}
use native.Mathlib.Numerals.{add-one}
use native.Mathlib.Omega.{arith}
use borrow.Rule.Slice.PartMut.{put_mid, same_len_mid}
use lib.ListN.{length, get_or, set, take, drop, length-set, length-take, length-drop}
use lib.Seq.{take-length, take-take, take-add, take-suc, take-suc-set}
use Rattle.std.proofs.lemmas.Slice.{take-put_mid}

-- ---- what the copies keep: the first `done` bytes of d are those of src
pub record SoFar (src d : List ℕ) (done : ℕ) : Type 0 where
  pub within : done ≤ length src
  pub same_length : length d ≡ length src
  pub copied : take done d ≡ take done src

pub none_yet : (src d : List ℕ) → length src ≡ length d → SoFar src d 0
none_yet src d same = record { within = omega arith; same_length = sym same; copied = refl }

module _ {src d : List ℕ} {done : ℕ} (S : SoFar src d done) where
  -- ---- the next byte
  pub byte : done < length src → SoFar src (set d done (get_or src done 0)) (done + 1)
  byte reads =
      let b = get_or src done 0 in
      let writes : done < length d = rw S.same_length reads in
      rw (add-one done) (record {
        within = reads;
        same_length = length-set d done b ∙ S.same_length;
        copied = take-suc-set d done b writes ∙ ap (λ (l : List ℕ). l ++ b ∷ []) S.copied ∙ sym (take-suc src done 0 reads);
      })

  -- ---- THE LAW: the next m bytes start at a place among those that are copied or right after them
  pub more : {part : List ℕ} (at k m : ℕ) → part ≡ take m (drop at src) → m ≡ k → at ≤ done → at + m ≤ length src → SoFar src (put_mid at k d part) (at + m)
  more {part} at k m is same among fits =
      let long : length part ≡ m = ap length is ∙ rw (length-take, length-drop) (omega arith) in
      let room : m ≡ length (take k (drop at d)) = rw (length-take, length-drop) (omega (arith, S.same_length)) in
      let before : take at d ≡ take at src = sym (take-take at done d among) ∙ ap (take at) S.copied ∙ take-take at done src among in
      record {
        within = fits;
        same_length = same_len_mid at k d part (long ∙ room) ∙ S.same_length;
        copied = take-put_mid at k d part (at + m) (omega arith) (omega (arith, S.same_length)) ∙ rw (before, is) (sym (take-add at m src));
      }

  pub all : length src ≤ done → d ≡ src
  all h =
      let e : done ≡ length src = omega (arith, S.within) in
      let c : take (length d) d ≡ take (length src) src = rw (S.same_length, ← e) S.copied in
      sym (take-length d) ∙ c ∙ take-length src
