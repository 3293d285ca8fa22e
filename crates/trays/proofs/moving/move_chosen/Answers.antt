-- `move_chosen` meets its contract: either size of tables has room for a pattern of each layout. Assumes nothing.
use Rattle.trays.proofs.Noting.{moved_empty}
use Rattle.trays.proofs.moving.move_chosen.Goals as goal

pub returns-then-window : goal.returns-then-window
returns-then-window c =
    moved_empty _ _ _ c.args.second.now.ok c.args.window c.requires.second_after c.args.tray1.now _ c.args.chosen c.requires.lengths.second c.if-window.true
