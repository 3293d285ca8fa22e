-- `move_tray` meets its contract. Assumes nothing.
use Rattle.trays.proofs.Noting.{moved_whole}
use Rattle.trays.proofs.moving.move_tray.Goals as goal

pub returns : goal.returns
returns c = moved_whole _ _ _ c.requires.second.pattern c.args.window c.requires.second.after c.args.tray1.now c.args.tray2.now _ _ c.move_chosen.ensures c.every_pair-chosen.ensures
