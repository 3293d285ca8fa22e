-- `packed_len` meets its contract. Assumes nothing.
use Rattle.openings.proofs.Opens.{windowed}
use Rattle.astrephon.proofs.Transfers.{measured_done}
use Rattle.astrephon.proofs.carrying.packed_len.Goals as goal

pub count-requires : goal.count-requires
count-requires c = let O = c.in_ok-opening.ensures in record { forward = (windowed _ _ _ _ O.0 O.1).forward }

pub returns : goal.returns
returns c = let O = c.in_ok-opening.ensures in measured_done _ _ _ _ O.0 O.1 _ c.count.ensures
