-- Tests that repeat. Assumes nothing: these are definitions.
use Rattle.std.specs.Prelude.{◌≡◌, Bool, ◌&&◌, ℕ, ◌+◌, ◌-◌, ◌%◌, ◌≤◌, leb}

-- THE PERIODIC SELECTION: what `picks` picks of one period, again and again from `from` on
abbrev pub owns : (from period : ℕ) (picks : ℕ → Bool) → ℕ → Bool
owns from period picks x = leb from x && picks ((x - from) % period)

-- from `from` on, p repeats every `period`
abbrev pub Periodic : (ℕ → Bool) → (from period : ℕ) → Type 0
Periodic p from period = (x : ℕ) → from ≤ x → p (x + period) ≡ p x
