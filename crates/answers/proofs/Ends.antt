-- Where a frame's blobs stand and end, and the room that there is for an answer. Assumes nothing.
use mathlib.Core.Path.{◌≡◌, refl}
use mathlib.Core.List.{List}
use Prim.Native.Nat.{ℕ, ◌+◌, ◌*◌, ◌≤◌}
use native.Mathlib.Omega.{arith}
use lib.ListN.{length, take, length-take, length-drop}
use lib.Seq.{length-take-le}
use Rattle.answers.specs.Frames.{blob, blob_end, end1, end2, end3, end4, Whole, into_of}
use Rattle.answers.specs.Lines.{Room}

module _ (xs : List ℕ) where
  pub blob_grows : (at : ℕ) → at + 4 ≤ blob_end xs at
  unfolding blob_end
  blob_grows at = omega arith

  -- in a whole frame the numbers and the blobs stand in the frame
  module _ (whole : Whole xs) where
    pub third_fits : end3 xs ≤ length xs
    third_fits = omega (arith, blob_grows (end3 xs))

    pub second_fits : end2 xs ≤ length xs
    second_fits = omega (arith, third_fits, blob_grows (end2 xs))

    pub first_fits : (37 ≤ end1 xs) × (end1 xs ≤ length xs)
    first_fits = (omega (arith, blob_grows 33), omega (arith, second_fits, blob_grows (end1 xs)))

    pub fourth_fits : end4 xs ≤ length xs
    fourth_fits = omega arith

  into_short : length (into_of xs) ≤ length xs
  unfolding blob
  into_short = simp (length-take, length-drop) (omega arith)

  -- where there is room, the space is lent as far as the destination buffer goes
  module _ {into : List ℕ} (space : List ℕ) {text : ℕ} (is : into ≡ into_of xs) (room : Room (length xs) (length space) text) where
    pub into_room : length into ≤ length space
    into_room = rw is (omega (arith, into_short, room.buffered))

    pub lent_length : length (take (length into) space) ≡ length into
    lent_length = length-take-le (length into) space into_room

    pub lent_room : (length (take (length into) space) ≡ length (into_of xs))
        × ((length (take (length into) space) ≤ 65536) × (149 + 2 * length (take (length into) space) ≤ text))
    lent_room = rw (lent_length, is) (refl, (omega (arith, into_short, room.most), omega (arith, into_short, room.lined)))

-- there is room for a front of what there is room for
pub front_room : (n : ℕ) (space : List ℕ) {buffer text : ℕ} → Room (length space) buffer text → Room (length (take n space)) buffer text
front_room n space room = rw length-take (record { most = omega (arith, room.most); buffered = omega (arith, room.buffered); lined = omega (arith, room.lined) })
