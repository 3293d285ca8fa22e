-- `byte` meets its contract. Assumes nothing.
use Rattle.maps.proofs.Mapped.{rest_inside, turns_small, byte_by_periods}
use Rattle.maps.proofs.subfile.Subfile.byte.Goals as goal

pub inverse-place-requires-clause-sound : goal.inverse-place-requires-clause-sound
inverse-place-requires-clause-sound c = rw c.siblings.ensures.tree c.args.self.now.ok.sound

pub inverse-place-requires-clause-below : goal.inverse-place-requires-clause-below
inverse-place-requires-clause-below c = rw (c.siblings.ensures.tree, c.from-size.ensures) (rest_inside c.args.self.now.ok _)

pub offset-requires : goal.offset-requires
offset-requires c = rw c.from-size.ensures (turns_small c.args.self.now.ok c.args.y.0 c.requires)

pub returns : goal.returns
returns c = rw (c.offset.ensures, c.from-size.ensures)
    (byte_by_periods c.args.self.now.ok _ _ (rw (c.siblings.ensures.tree, c.from-size.ensures) at c.inverse-place.ensures))
