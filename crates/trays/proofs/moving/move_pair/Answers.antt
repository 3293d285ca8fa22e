-- `move_pair` meets its contract. Assumes nothing.
use Rattle.trays.proofs.Noting.{moved_pair}
use Rattle.trays.proofs.moving.move_pair.Goals as goal

pub returns : goal.returns
returns c = moved_pair _ _ _ c.requires.second.pattern c.args.window c.requires.second.after c.args.tray1.now c.args.tray2.now _ _ c.move_chosen.ensures _ _ c.one_pair-chosen.ensures
