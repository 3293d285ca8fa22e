-- Words and numbers as bytes. Assumes nothing: these are definitions.
use Rattle.std.specs.Prelude.{cond, List, [] as []ᴸ, ◌∷◌ as ◌∷ᴸ◌, ◌++◌, ℕ, zero, suc, ◌+◌, ◌/◌, ◌%◌, ltb}
use Prim.Native.Char.{code}
use Prim.Native.String.{String, [], ◌∷◌}

-- a word's bytes: its characters' codes
unfoldable pub word : String → List ℕ
word [] = []ᴸ
word (c ∷ s) = code c ∷ᴸ word s

-- n in decimal, in at most k digits: the digits of n / 10, if there are any, and the last one
unfoldable pub decimal_in : (k n : ℕ) → List ℕ
decimal_in zero n = []ᴸ
decimal_in (suc k) n = cond (ltb n 10) []ᴸ (decimal_in k (n / 10)) ++ ((48 + n % 10) ∷ᴸ []ᴸ)

-- a number of 64 bits has 20 digits at most
abbrev pub decimal : ℕ → List ℕ
decimal n = decimal_in 20 n
