-- `selection_of` meets its contract. Assumes nothing.
use native.Mathlib.Omega.{arith}
use Rattle.families.proofs.Flats.{element_ruled}
use Rattle.maps.proofs.Chosen.{chosen_small, chosen_is}
use Rattle.maps.proofs.mapping.selection_of.Goals as goal

pub siblings-requires-clause-ruled : goal.siblings-requires-clause-ruled
siblings-requires-clause-ruled c = element_ruled 4 65535 _ c.requires.ruled _ c.requires.there (omega arith)

pub overflow_cast-selected : goal.overflow_cast-selected
overflow_cast-selected c = omega (arith, chosen_small _ _ c.requires.ruled c.requires.there _ c.siblings.ensures.tree _ c.size-selected.ensures)

pub returns : goal.returns
returns c = chosen_is _ _ c.requires.ruled c.requires.there _ c.siblings.ensures.tree _ c.size-selected.ensures _
