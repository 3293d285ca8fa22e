-- `add` meets its contract. Assumes nothing.
use mathlib.Core.Path.{◌≡◌, ap, ◌∙◌}
use mathlib.Core.List.{List, [], ◌∷◌}
use Prim.Native.Nat.{ℕ, ◌+◌}
use Rattle.runs.specs.Listing.{filled, with_run}
use Rattle.runs.proofs.Fillings.{none_written, four_written}
use Rattle.runs.proofs.listing.add.Goals as goal
use Rattle.runs.proofs.listing.add.Goals.{Joined-next-list, else-next-list, then-next-list}

-- what stands in the list where the two ways meet
written : (c : Joined-next-list)
    → let a = c.args in c.if-next-list.list ≡ with_run a.list.now a.runs (a.walk.x.0 ∷ a.len ∷ a.walk.one.rank.0 ∷ a.walk.two.rank.0 ∷ [])
written c = elim c.if-next-list.branch [ then-next-list w ↦ w.list-is ∙ four_written _ _ _ _ w.copy_from_slice.ensures.after w.if-next-list.true | else-next-list w ↦ w.list-is ∙ none_written _ _ _ w.if-next-list.false ]

pub returns : goal.returns
returns c = ap (λ (slots : List ℕ). filled slots (c.args.runs + 1)) (written c)
