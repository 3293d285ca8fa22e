-- The parts of a frame, of the bytes that follow its first number: a call in one byte, four numbers of eight, four blobs, each a number of four bytes and
-- as many bytes as that says. Assumes nothing: these are definitions.
use Rattle.std.specs.Prelude.{◌≡◌, List, ℕ, ◌+◌, length, get_or, take, drop}
use Rattle.sheets.specs.Bytes.{le32}
use Rattle.answers.specs.Numbers.{le64}

-- the call, and the four numbers i, j, a and b
abbrev pub call_of : List ℕ → ℕ
call_of xs = get_or xs 0 0

abbrev pub i_of : List ℕ → ℕ
i_of xs = le64 xs 1

abbrev pub j_of : List ℕ → ℕ
j_of xs = le64 xs 9

abbrev pub a_of : List ℕ → ℕ
a_of xs = le64 xs 17

abbrev pub b_of : List ℕ → ℕ
b_of xs = le64 xs 25

-- the blob whose length stands at `at`, and where it ends
unfoldable pub blob : List ℕ → (at : ℕ) → List ℕ
blob xs at = take (le32 xs at) (drop (at + 4) xs)

unfoldable pub blob_end : List ℕ → (at : ℕ) → ℕ
blob_end xs at = at + 4 + le32 xs at

-- the ends of the four blobs, each of which starts where the one before it ends
abbrev pub end1 : List ℕ → ℕ
end1 xs = blob_end xs 33

abbrev pub end2 : List ℕ → ℕ
end2 xs = blob_end xs (end1 xs)

abbrev pub end3 : List ℕ → ℕ
end3 xs = blob_end xs (end2 xs)

abbrev pub end4 : List ℕ → ℕ
end4 xs = blob_end xs (end3 xs)

-- a frame is whole where the fourth blob ends where the frame does
abbrev pub Whole : List ℕ → Type 0
Whole xs = end4 xs ≡ length xs

-- the first blob is sheet 1, the second sheet 2, the third the source buffer, and the fourth the destination buffer before the call
abbrev pub sheet1 : List ℕ → List ℕ
sheet1 xs = blob xs 33

abbrev pub sheet2 : List ℕ → List ℕ
sheet2 xs = blob xs (end1 xs)

abbrev pub from_of : List ℕ → List ℕ
from_of xs = blob xs (end2 xs)

abbrev pub into_of : List ℕ → List ℕ
into_of xs = blob xs (end3 xs)
