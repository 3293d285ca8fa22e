-- What every window of the file keeps. Assumes nothing: these are definitions.
use Rattle.std.specs.Prelude.{ℕ, ◌^◌, ◌≤◌}

-- it ends no earlier than it starts, and at the limit at most
pub record WindowOk (start end : ℕ) : Type 0 where
  pub ordered : start ≤ end
  pub near : end ≤ 2 ^ 40
