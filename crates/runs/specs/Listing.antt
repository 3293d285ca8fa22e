-- The runs of file offsets that two selections share, and the list that holds them, four slots a run. Assumes nothing: these are definitions.
use Rattle.std.specs.Prelude.{◌≡◌, Bool, ◌&&◌, cond, List, [], ◌∷◌, ◌++◌, ℕ, ◌+◌, ◌-◌, ◌*◌, ◌/◌, leb, ltb, length, take, drop}
use Rattle.counting.specs.Count.{count_below}
use Rattle.counting.specs.Runs.{Run, runs_of}

-- x is in both
abbrev pub both : (p q : ℕ → Bool) → ℕ → Bool
both p q x = p x && q x

-- THE SHARED RUNS of the window from a to b: the maximal runs of its offsets that are in both, ascending
abbrev pub shared_runs : (p q : ℕ → Bool) → (a b : ℕ) → List Run
shared_runs p q a b = runs_of (both p q) a (b - a)

-- the four slots of a run: its file start, its length, and the subfile offset of its start in each selection
abbrev pub slots_of : (p q : ℕ → Bool) → Run → List ℕ
slots_of p q r = r.0 ∷ r.1 ∷ count_below p r.0 ∷ count_below q r.0 ∷ []

-- .. of one run after the other
unfoldable pub list_of : (p q : ℕ → Bool) → List Run → List ℕ
list_of p q [] = []
list_of p q (r ∷ rs) = slots_of p q r ++ list_of p q rs

-- how many runs a list of slots holds
abbrev pub capacity : (slots : List ℕ) → ℕ
capacity slots = length slots / 4

-- THE LIST with some runs in it: their slots, and then the old ones
abbrev pub list_with : (p q : ℕ → Bool) → List Run → (old : List ℕ) → List ℕ
list_with p q runs old = list_of p q runs ++ drop (4 * length runs) old

-- .. afterwards: all old ones stay where it does not hold every run
unfoldable pub list_after : (p q : ℕ → Bool) → List Run → (old : List ℕ) → List ℕ
list_after p q runs old = cond (leb (length runs) (capacity old)) (list_with p q runs old) old

-- WHAT LISTING DOES: it says how many shared runs the window from a to b has, and leaves that list
pub record Listed (p q : ℕ → Bool) (a b : ℕ) (old new : List ℕ) (runs : ℕ) : Type 0 where
  pub number : runs ≡ length (shared_runs p q a b)
  pub list : new ≡ list_after p q (shared_runs p q a b) old

-- ---- the same list, filled run by run
-- runs handed on to a state, one after the other
unfoldable pub handed : {S : Type 0} → (S → Run → S) → S → List Run → S
handed add t [] = t
handed add t (r ∷ rs) = handed add (add t r) rs

-- how far a list is filled
pub record Filling : Type 0 where
  pub slots : List ℕ
  pub runs : ℕ

abbrev pub filled : (slots : List ℕ) → (runs : ℕ) → Filling
filled slots runs = record { slots = slots; runs = runs }

-- the slots with `four` written behind those of n runs, where they hold another run
unfoldable pub with_run : (slots : List ℕ) → (n : ℕ) → (four : List ℕ) → List ℕ
with_run slots n four = cond (ltb n (capacity slots)) (take (4 * n) slots ++ four ++ drop (4 * n + 4) slots) slots

-- one run more. A list that does not hold it only counts it
unfoldable pub added : (p q : ℕ → Bool) → Filling → Run → Filling
added p q t r = filled (with_run t.slots t.runs (slots_of p q r)) (t.runs + 1)
