-- The bytes of a window that pass a test, packed, and put back. Assumes nothing: these are definitions.
use Rattle.std.specs.Prelude.{Bool, cond, List, [], ◌∷◌, ℕ, zero, suc, ◌-◌, get_or}
use Rattle.counting.specs.Count.{count_in}

-- f a, f (a + 1), .., f (a + n - 1)
unfoldable pub tabulated : {A : Type 0} → ℕ → ℕ → (ℕ → A) → List A
tabulated a zero f = []
tabulated a (suc n) f = f a ∷ tabulated (suc a) n f

-- a file buffer that starts at file offset a holds byte x at place x - a
abbrev pub in_file : ℕ → List ℕ → ℕ → ℕ
in_file a file x = get_or file (x - a) 0

-- of f a, f (a + 1), .., f (a + n - 1) those whose number passes p, in order
unfoldable pub gathered : (ℕ → Bool) → ℕ → ℕ → (ℕ → ℕ) → List ℕ
gathered p a zero f = []
gathered p a (suc n) f = cond (p a) (f a ∷ gathered p (suc a) n f) (gathered p (suc a) n f)

-- byte x of a file buffer that starts at a, after `packed` is put back: packed's where p x, and the old one elsewhere
abbrev pub scattered_byte : (ℕ → Bool) → ℕ → (packed file : List ℕ) → ℕ → ℕ
scattered_byte p a packed file x = cond (p x) (get_or packed (count_in p a (x - a)) 0) (in_file a file x)

-- .. and all n bytes of the buffer
unfoldable pub scattered : (ℕ → Bool) → ℕ → ℕ → List ℕ → List ℕ → List ℕ
scattered p a n packed file = tabulated a n (scattered_byte p a packed file)
