-- The maximal runs of consecutive numbers that pass a test. Assumes nothing: these are definitions.
use Rattle.std.specs.Prelude.{◌≡◌, Bool, true, false, ◌&&◌, ◌||◌, not, cond, List, [], ◌∷◌, ℕ, zero, suc, ◌+◌, ◌-◌, ◌≤◌, ◌<◌, leb, ltb, eqb}

-- first number, and how many
abbrev pub Run : Type 0
Run = ℕ × ℕ

-- the run of m numbers from s on in front of later runs, joined to the first of them where the two touch
unfoldable pub glue : ℕ → ℕ → List Run → List Run
glue s m [] = (s, m) ∷ []
glue s m (q ∷ rs) = cond (eqb (s + m) q.0) ((s, m + q.1) ∷ rs) ((s, m) ∷ (q ∷ rs))

-- THE RUNS of the n numbers from a on that pass p, ascending
unfoldable pub runs_of : (ℕ → Bool) → ℕ → ℕ → List Run
runs_of p a zero = []
runs_of p a (suc n) = cond (p a) (glue a 1 (runs_of p (suc a) n)) (runs_of p (suc a) n)

-- runs and then later runs, the last of the first joined to the first of the later ones where the two touch
unfoldable pub joined : List Run → List Run → List Run
joined [] later = later
joined (r ∷ rs) later = glue r.0 r.1 (joined rs later)

-- how many numbers the runs have together
unfoldable pub total : List Run → ℕ
total [] = 0
total (r ∷ rs) = r.1 + total rs

-- p begins after x: x does not pass and the next number does
abbrev pub rises : (ℕ → Bool) → ℕ → Bool
rises p x = not (p x) && p (suc x)

-- ---- what the runs are, said without building them
-- some run has x
unfoldable pub covers : List Run → ℕ → Bool
covers [] x = false
covers (r ∷ rs) x = (leb r.0 x && ltb x (r.0 + r.1)) || covers rs x

-- runs in order from a on and before e, none empty, at least `gap` apart
unfoldable pub Spaced : (gap a e : ℕ) → List Run → Type 0
Spaced gap a e [] = Unit {0}
Spaced gap a e (r ∷ rs) = (a ≤ r.0) × (0 < r.1) × (r.0 + r.1 ≤ e) × Spaced gap (r.0 + r.1 + gap) e rs

-- all of each run passes, and inside the window from a to e no run can be made longer
unfoldable pub Maximal : (p : ℕ → Bool) (a e : ℕ) → List Run → Type 0
Maximal p a e [] = Unit {0}
Maximal p a e (r ∷ rs) =
    ((x : ℕ) → r.0 ≤ x → x < r.0 + r.1 → p x ≡ true) × (a < r.0 → p (r.0 - 1) ≡ false) × (r.0 + r.1 < e → p (r.0 + r.1) ≡ false) × Maximal p a e rs
