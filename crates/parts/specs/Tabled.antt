-- A layout by a table of who has each place of a period, and how many places before each are its owner's. Assumes nothing: these are definitions.
use Rattle.std.specs.Prelude.{◌≡◌, List, ℕ, suc, ◌≤◌, ◌<◌, length, get_or}
use Rattle.counting.specs.Count.{count_below}
use Rattle.counting.specs.Periodic.{owns}
use Rattle.counting.specs.Gather.{tabulated}
use Rattle.counting.specs.Elements.{Elements}
use Rattle.moves.specs.Owning.{held_by}

-- THE LAYOUT that a table stands for: `count` elements, from `from` on again every period
unfoldable pub tabled : (count from period : ℕ) → (owners : List ℕ) → Elements
tabled count from period owners = tabulated 0 count (λ e. owns from period (held_by owners (suc e)))

-- every place of a period is an element's
pub record Owned (count period : ℕ) (owners : List ℕ) : Type 0 where
  pub held : period ≤ length owners
  pub some : (u : ℕ) → u < period → 1 ≤ get_or owners u 0
  pub most : (u : ℕ) → u < period → get_or owners u 0 ≤ count

-- how many places before each are its owner's
pub record Ranked (owners : List ℕ) (period : ℕ) (ranks : List ℕ) : Type 0 where
  pub held : period ≤ length ranks
  pub each : (u : ℕ) → u < period → get_or ranks u 0 ≡ count_below (held_by owners (get_or owners u 0)) u
