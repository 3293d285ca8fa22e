-- `check` meets its contract. Assumes nothing.
use native.Mathlib.Omega.{arith}
use Rattle.openings.proofs.Opens.{read_shares}
use Rattle.astrephon.proofs.checking.check.Goals as goal

pub overflow_cast-result : goal.overflow_cast-result
overflow_cast-result c = omega (arith, (read_shares c.args.sheet.now 1 _ c.in_ok-accepted.ensures).ok.room)
