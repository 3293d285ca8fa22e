-- `judge` meets its contract. Assumes nothing.
use native.Mathlib.Omega.{arith}
use Rattle.families.proofs.Flats.{ok_wider}
use Rattle.sheets.proofs.answer.judge.Goals as goal

pub pattern_size-size-requires : goal.pattern_size-size-requires
pattern_size-size-requires c = ok_wider _ _ _ _ (omega (arith, c.requires.most)) c.requires.ok
