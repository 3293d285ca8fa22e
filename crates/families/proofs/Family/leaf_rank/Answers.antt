-- `leaf_rank` meets its contract: the steps give what `leaf_rank_is` counts, with both caps. Assumes nothing.
use mathlib.Core.Path.{◌≡◌, ◌∙◌}
use Prim.Native.Nat.{◌+◌, ◌*◌, ◌/◌, ◌%◌, min}
use native.Mathlib.Omega.{arith}
use Rattle.std.proofs.Common.{rules}
use Rattle.counting.specs.Count.{count_below}
use Rattle.families.specs.Decoded.{leaf_of}
use Rattle.families.proofs.OneFamily.{leaf_rank_is}
use Rattle.families.proofs.Family.leaf_rank.Goals as goal
use Rattle.families.proofs.Family.leaf_rank.Goals.{After-from}

-- the sum of the page with both caps, once n segments are counted too
counted : (c : After-from)
    → let len = c.from-len.result + 1 in
    min (c.from-segment.result * len + c.min-place.result) (c.from.result * len) ≡ count_below (leaf_of c.args.self) c.args.x
counted c =
    let f = c.args.self in
    let u = c.saturating_sub-past.result in
    let q : c.unwrap_or.result ≡ u / f.s = search rules in
    let w : c.unwrap_or-2.result ≡ u % f.s = search rules in
    let capped : c.min-place.result ≡ min c.from-place.result (c.from-len.result + 1) = omega arith in
    rw capped
    (leaf_rank_is f.l f.r f.s f.n c.args.x u _ _ _ _ c.requires c.saturating_sub-past.ensures (omega arith) (c.from-segment.ensures ∙ q) (c.from-place.ensures ∙ w) c.from.ensures)

pub returns : goal.returns
returns c = omega (arith, counted (goal.at.returns c).After-from)
