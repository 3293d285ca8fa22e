-- `list_shared` meets its contract: either pair of tables has room for both selections. Assumes nothing.
use Rattle.runs.proofs.Room.{side_smaller}
use Rattle.runs.proofs.listing.list_shared.Goals as goal

pub list_by_tables-requires-clause-one : goal.list_by_tables-requires-clause-one
list_by_tables-requires-clause-one c = side_smaller c.requires.one 2048 _ c.fits.ensures c.if-fits.true

pub list_by_tables-requires-clause-two : goal.list_by_tables-requires-clause-two
list_by_tables-requires-clause-two c = side_smaller c.requires.two 2048 _ c.fits-then-fits.ensures c.if-fits-2.true
