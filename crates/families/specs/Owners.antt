-- Which element owns a pattern offset, and how a table of owners is painted. Assumes nothing: these are definitions.
use Rattle.std.specs.Prelude.{Bool, true, false, ◌||◌, cond, List, [], ◌∷◌, ℕ, suc, ◌+◌, eqb}
use Rattle.counting.specs.Elements.{times, first_of}

-- THE OWNER of x: 0 in no element, e + 1 in element e alone, 255 in two or more
unfoldable pub owner : List (ℕ → Bool) → ℕ → ℕ
owner L x = cond (eqb (times L x) 0) 0 (cond (eqb (times L x) 1) (first_of L x + 1) 255)

-- what a place that holds v holds once the element with the number me has it too, or not
abbrev pub mark : (me : ℕ) → Bool → ℕ → ℕ
mark me false v = v
mark me true v = cond (eqb v 0 || eqb v me) me 255

-- the table's places from i on, each marked where p selects it
unfoldable pub painted_from : ℕ → (ℕ → Bool) → (me : ℕ) → List ℕ → List ℕ
painted_from i p me [] = []
painted_from i p me (v ∷ vs) = mark me (p i) v ∷ painted_from (suc i) p me vs

abbrev pub painted : (ℕ → Bool) → (me : ℕ) → List ℕ → List ℕ
painted p me table = painted_from 0 p me table
