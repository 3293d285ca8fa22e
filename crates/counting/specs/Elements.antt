-- A layout's elements, each the test of the numbers it has: who has a number, and whether a window is shared out. Assumes nothing: these are definitions.
use Rattle.std.specs.Prelude.{◌≡◌, Bool, false, cond, List, [], ◌∷◌, ℕ, suc, ◌+◌, ◌≤◌, ◌<◌, get_or}
use Rattle.counting.specs.Count.{bit}

-- a layout: its elements in order
abbrev pub Elements : Type 0
Elements = List (ℕ → Bool)

-- element i; past the last there is none, and nothing passes
abbrev pub element : Elements → ℕ → ℕ → Bool
element L i = get_or L i (λ _. false)

-- in how many elements x is
unfoldable pub times : Elements → ℕ → ℕ
times [] x = 0
times (p ∷ L) x = bit (p x) + times L x

-- the first element that has x
unfoldable pub first_of : Elements → ℕ → ℕ
first_of [] x = 0
first_of (p ∷ L) x = cond (p x) 0 (suc (first_of L x))

-- EVERY NUMBER of the n from a on is in exactly one element
abbrev pub Partition : Elements → (a n : ℕ) → Type 0
Partition L a n = (x : ℕ) → a ≤ x → x < a + n → times L x ≡ 1
