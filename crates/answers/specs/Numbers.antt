-- Numbers of 64 bits in bytes, the lowest byte first; a list of them stands in a buffer as slots of eight bytes. Assumes nothing: these are definitions.
use Rattle.std.specs.Prelude.{List, [], ◌∷◌, ◌++◌, ℕ, zero, suc, ◌+◌, ◌*◌, ◌/◌, ◌%◌, length, drop}
use Rattle.sheets.specs.Bytes.{le32}

-- the number of eight bytes that stands at `at`
unfoldable pub le64 : List ℕ → (at : ℕ) → ℕ
le64 xs at = le32 xs at + 4294967296 * le32 xs (at + 4)

-- the lowest k bytes of v
unfoldable pub lowest : (k v : ℕ) → List ℕ
lowest zero v = []
lowest (suc k) v = v % 256 ∷ lowest k (v / 256)

-- the first n slots of a buffer, and its whole slots
unfoldable pub slots_in : (n : ℕ) → (buffer : List ℕ) → List ℕ
slots_in zero xs = []
slots_in (suc n) xs = slots_in n xs ++ (le64 xs (8 * n) ∷ [])

abbrev pub slots_of : (buffer : List ℕ) → List ℕ
slots_of xs = slots_in (length xs / 8) xs

-- slots as bytes, and a buffer with these slots in front of the bytes that it held behind them
unfoldable pub slot_bytes : (slots : List ℕ) → List ℕ
slot_bytes [] = []
slot_bytes (v ∷ vs) = lowest 8 v ++ slot_bytes vs

unfoldable pub with_slots : (slots buffer : List ℕ) → List ℕ
with_slots vs xs = slot_bytes vs ++ drop (8 * length vs) xs
