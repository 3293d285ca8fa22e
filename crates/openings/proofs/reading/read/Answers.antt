-- `read` meets its contract. Assumes nothing.
use Rattle.openings.proofs.Readings.{accepted_reads, refused_reads}
use Rattle.openings.proofs.reading.read.Goals as goal

pub returns-in-Ok : goal.returns-in-Ok
returns-in-Ok c = accepted_reads c.args.which _ c.in-Ok.accepted c.in-Ok.ensures

pub returns-in-Err : goal.returns-in-Err
returns-in-Err c = refused_reads c.args.which _ c.in-Err.refused c.in-Err.ensures
