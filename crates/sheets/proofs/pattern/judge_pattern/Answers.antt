-- `judge_pattern` meets its contract: either table has a place for every offset that an element can have. Assumes nothing.
use native.Mathlib.Omega.{arith}
use Rattle.families.proofs.Flats.{ok_wider}
use Rattle.sheets.proofs.pattern.judge_pattern.Goals as goal

pub first_uneven-requires-clause-ok : goal.first_uneven-requires-clause-ok
first_uneven-requires-clause-ok c = ok_wider _ _ _ _ (omega arith) c.requires.ok

pub first_uneven-requires-else-end-le2048-clause-ok : goal.first_uneven-requires-else-end-le2048-clause-ok
first_uneven-requires-else-end-le2048-clause-ok c = ok_wider _ _ _ _ (omega arith) c.requires.ok
