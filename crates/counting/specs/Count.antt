-- How many numbers pass a test `p`. An element's rank, its size, a pattern's size and a packed length are all this one count.
-- Assumes nothing: these are definitions.
use Rattle.std.specs.Prelude.{Bool, true, false, ◌&&◌, not, cond, ℕ, zero, suc, ◌+◌, eqb}

abbrev pub bit : Bool → ℕ
bit true = 1
bit false = 0

-- how many numbers below x pass: the rank of x
unfoldable pub count_below : (ℕ → Bool) → ℕ → ℕ
count_below p zero = 0
count_below p (suc x) = count_below p x + bit (p x)

-- how many of the n numbers from a on pass: the window's count, counted from its front
unfoldable pub count_in : (ℕ → Bool) → ℕ → ℕ → ℕ
count_in p a n = count_below (λ y. p (a + y)) n

-- how many numbers from x on pass before one does not, of n at most
unfoldable pub stretch : (ℕ → Bool) → ℕ → ℕ → ℕ
stretch p x zero = 0
stretch p x (suc n) = cond (p x) (suc (stretch p (suc x) n)) 0

-- the number of rank y: the first below m that passes with y passing before it, and m where there is none
unfoldable pub nth : (ℕ → Bool) → ℕ → ℕ → ℕ
nth p m y = stretch (λ x. not (p x && eqb (count_below p x) y)) 0 m
