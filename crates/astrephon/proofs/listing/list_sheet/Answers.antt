-- `list_sheet` meets its contract. Assumes nothing.
use mathlib.Core.Path.{refl}
use native.Mathlib.Omega.{arith}
use native.Mathlib.Nat.{zero-add}
use Rattle.astrephon.proofs.Texts.{buffer_says, buffer_leaves, text_says, text_leaves}
use Rattle.astrephon.proofs.listing.list_sheet.Goals as goal

pub returns-then-short-clause-says : goal.returns-then-short-clause-says
returns-then-short-clause-says c = buffer_says _ c.put_listing-n.ensures.listed (omega arith) _ (omega (arith, c.if-short.true))

pub returns-then-short-clause-leaves : goal.returns-then-short-clause-leaves
returns-then-short-clause-leaves c = buffer_leaves _ c.put_listing-n.ensures.listed (omega arith) _ (omega (arith, c.if-short.true))

pub returns-clause-says : goal.returns-clause-says
returns-clause-says c = text_says _ c.put_listing-n.ensures.listed (omega arith) _ (omega (arith, c.if-short.false))

pub returns-clause-leaves : goal.returns-clause-leaves
returns-clause-leaves c = text_leaves _ c.put_listing-n.ensures.listed (omega arith) _ (omega (arith, c.if-short.false)) (rw (c.copy_from_slice.ensures.after, zero-add) refl)
