-- Numbers in bytes, the lowest byte first. Assumes nothing: these are definitions.
use Rattle.std.specs.Prelude.{List, [], ◌∷◌, ◌++◌, ℕ, ◌+◌, ◌*◌, ◌/◌, ◌%◌, ◌<◌, get_or}

-- the numbers of two and of four bytes that stand at `at`
unfoldable pub le16 : List ℕ → (at : ℕ) → ℕ
le16 xs at = get_or xs at 0 + 256 * get_or xs (at + 1) 0

unfoldable pub le32 : List ℕ → (at : ℕ) → ℕ
le32 xs at = le16 xs at + 65536 * le16 xs (at + 2)

-- a number as two and as four bytes
unfoldable pub two : ℕ → List ℕ
two v = v % 256 ∷ v / 256 ∷ []

unfoldable pub four : ℕ → List ℕ
four v = two (v % 65536) ++ two (v / 65536)

-- a list of bytes
unfoldable pub Bytes : List ℕ → Type 0
Bytes xs = (i : ℕ) → get_or xs i 0 < 256
