-- `put_tree` meets its contract. Assumes nothing.
use Rattle.lines.proofs.Lines.{put_tree}
use Rattle.lines.proofs.listing.put_tree.Goals as goal

pub returns : goal.returns
returns c = put_tree _ _ _ _ _ c.size-size.ensures c.requires.spans c.inverse-first.ensures c.put_element.ensures
