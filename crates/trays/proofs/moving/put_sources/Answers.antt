-- `put_sources` meets its contract. Assumes nothing.
use Rattle.trays.proofs.Noting.{sources_noted}
use Rattle.trays.proofs.moving.put_sources.Goals as goal

pub returns-clause-written : goal.returns-clause-written
returns-clause-written c = sources_noted c.args.pattern.now.ok c.fill_tables.ensures c.args.window c.requires.after c.fill_ranks.ensures c.share_out.ensures
