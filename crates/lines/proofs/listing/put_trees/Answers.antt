-- `put_trees` meets its contract: after e turns, the lines of e elements are put. Assumes nothing.
use native.Mathlib.Omega.{arith}
use Rattle.lines.proofs.Lines.{lent_ruled, lent_sound, lent_some, lined_none, lined_room, lined_more, lined_all}
use Rattle.lines.proofs.listing.put_trees.Goals as goal

pub loop-e-init : goal.loop-e-init
loop-e-init c = lined_none _ _

pub siblings-siblings-requires-clause-ruled : goal.siblings-siblings-requires-clause-ruled
siblings-siblings-requires-clause-ruled c = lent_ruled c.requires.listable (omega arith)

pub put_tree-requires-clause-sound : goal.put_tree-requires-clause-sound
put_tree-requires-clause-sound c = rw c.siblings-siblings.ensures.tree (lent_sound c.requires.listable (omega arith))

pub put_tree-requires-clause-some : goal.put_tree-requires-clause-some
put_tree-requires-clause-some c = rw c.siblings-siblings.ensures.tree (lent_some c.requires.listable (omega arith))

pub put_tree-requires-clause-spans : goal.put_tree-requires-clause-spans
put_tree-requires-clause-spans c = rw c.siblings-siblings.ensures.tree (c.requires.listable.spans _ (omega arith))

pub put_tree-requires-clause-room : goal.put_tree-requires-clause-room
put_tree-requires-clause-room c = lined_room _ _ c.requires.listable c.loop-e.invariant (omega arith) c.requires.room

pub loop-e-preserved : goal.loop-e-preserved
loop-e-preserved c = lined_more _ _ c.requires.listable c.loop-e.invariant (omega arith) (rw c.siblings-siblings.ensures.tree at c.put_tree.ensures)

pub returns : goal.returns
returns c = lined_all _ _ c.requires.listable c.loop-e.invariant (omega arith)
