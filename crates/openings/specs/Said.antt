-- WHAT A CALL SAYS, in 01's numbers, whatever type its answer has. Assumes nothing: these are definitions.
use Rattle.std.specs.Prelude.{List, ℕ}

-- it did its work and gives these values, or it is refused
pub data Said : Type 0 where
  done : (values : List ℕ) → Said
  refused : (number sheet place flag : ℕ) → Said

-- A CALL THAT WRITES: what it says, and what the buffer holds afterwards that it was lent to write
pub record Outcome : Type 0 where
  pub says : Said
  pub later : List ℕ

-- where it did its work the buffer holds what was to be written, and where it is refused what it held
unfoldable pub afterwards : Said → (held written : List ℕ) → List ℕ
afterwards (done values) held written = written
afterwards (refused number sheet place flag) held written = held

abbrev pub writing : Said → (held written : List ℕ) → Outcome
writing said held written = record { says = said; later = afterwards said held written }
