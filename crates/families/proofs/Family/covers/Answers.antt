-- `covers` meets its contract: the search over the segments is a division. Assumes nothing.
use mathlib.Core.Path.{sym, ◌∙◌}
use mathlib.Core.Bool.{true≢false}
use borrow.Author.Tests.{lt-leb, ltb-true, ltb-false}
use Rattle.families.proofs.OneFamily.{in_before, in_beyond, in_within}
use Rattle.families.proofs.Family.covers.Goals as goal
use Rattle.families.proofs.Family.covers.Goals.{then-self-x, else-self-x}

pub returns-then-segment_of-self : goal.returns-then-segment_of-self
returns-then-segment_of-self c =
    let test = c.if-segment_of-self.true in
    elim c.if-self-x.branch [
      | then-self-x w ↦ in_within _ _ _ _ _ c.requires _ _ _ w.if-self-x.true (ltb-true _ _ (sym w.value-is ∙ test)) w.segment_of.ensures c.place.ensures c.saturating_sub.ensures
      | else-self-x w ↦ absurd (true≢false (sym test ∙ w.value-is ∙ lt-leb _ _ w.if-self-x.false))
    ]

pub returns-else-segment_of-self : goal.returns-else-segment_of-self
returns-else-segment_of-self c =
    let test = c.if-segment_of-self.false in
    elim c.if-self-x.branch [
      | then-self-x w ↦ test ∙ in_beyond _ _ _ _ _ c.requires _ w.if-self-x.true (ltb-false _ _ (sym w.value-is ∙ test)) w.segment_of.ensures
      | else-self-x w ↦ test ∙ in_before _ _ _ _ _ c.requires w.if-self-x.false
    ]
