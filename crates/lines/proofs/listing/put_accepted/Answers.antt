-- `put_accepted` meets its contract. Assumes nothing.
use Rattle.lines.proofs.Lines.{put_accepted}
use Rattle.lines.proofs.listing.put_accepted.Goals as goal

pub returns : goal.returns
returns c = put_accepted _ _ c.put_layout.ensures c.put_trees.ensures
