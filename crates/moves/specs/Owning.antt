-- Who has each place of a period, and looking ahead for every owner at once. Assumes nothing: these are definitions.
use Rattle.std.specs.Prelude.{◌≡◌, Bool, true, false, List, ℕ, ◌+◌, ◌-◌, ◌≤◌, ◌<◌, eqb, length, get_or}
use Rattle.moves.specs.declared.ahead.Stride.{Stride}
use Rattle.moves.specs.Strides.{Filled}

-- place u is owner o's. Element e has the number e + 1
abbrev pub held_by : (owners : List ℕ) → (o u : ℕ) → Bool
held_by owners o u = eqb (get_or owners u 0) o

-- by owner, a place from the period's end on before which it has none of the next period: its first one, for those that have one
pub record Nexts (owners : List ℕ) (period : ℕ) (nexts : List ℕ) : Type 0 where
  pub some : 1 ≤ period
  pub held : period ≤ length owners
  pub there : (u : ℕ) → u < period → get_or owners u 0 < length nexts
  pub past : (o : ℕ) → o < length nexts → period ≤ get_or nexts o 0
  pub near : (o : ℕ) → o < length nexts → get_or nexts o 0 < period + period
  pub none : (o y : ℕ) → o < length nexts → y < get_or nexts o 0 - period → held_by owners o y ≡ false

-- every owner that has that place is looked ahead for
pub record AllFilled (owners : List ℕ) (period : ℕ) (nexts : List ℕ) (strides : List Stride) : Type 0 where
  pub each : (o : ℕ) → held_by owners o (get_or nexts o 0 - period) ≡ true → Filled (held_by owners o) period strides
