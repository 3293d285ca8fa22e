-- `put_targets` meets its contract. Assumes nothing.
use Rattle.trays.proofs.Noting.{targets_noted}
use Rattle.trays.proofs.moving.put_targets.Goals as goal

pub returns : goal.returns
returns g c =
    targets_noted c.args.pattern.now.ok c.fill_tables.ensures c.args.window c.requires.after c.share_out.ensures
