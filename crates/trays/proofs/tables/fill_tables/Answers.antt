-- `fill_tables` meets its contract: the table of owners stands for the elements. Assumes nothing.
use Rattle.trays.proofs.Owners.{owners_nexts, owners_tables}
use Rattle.trays.proofs.tables.fill_tables.Goals as goal

pub fill_strides-requires-clause-nexts : goal.fill_strides-requires-clause-nexts
fill_strides-requires-clause-nexts c = owners_nexts c.args.pattern.now.ok c.requires.room.held _ c.owners.ensures c.put_nexts.ensures

pub returns : goal.returns
returns c =
    owners_tables c.args.pattern.now.ok c.requires.room.held _ c.owners.ensures c.put_nexts.ensures c.fill_strides.ensures
