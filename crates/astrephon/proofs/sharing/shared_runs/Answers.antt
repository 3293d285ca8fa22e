-- `shared_runs` meets its contract. Assumes nothing.
use mathlib.Core.Path.{sym}
use Rattle.openings.proofs.Orders.{left_held}
use Rattle.astrephon.specs.Shares.{shared_runs_of}
use Rattle.astrephon.proofs.Listings.{shared_asks, room_says, room_leaves, runs_says, runs_leaves}
use Rattle.astrephon.proofs.sharing.shared_runs.Goals as goal

pub returns-in_err-pair-clause-leaves : goal.returns-in_err-pair-clause-leaves
unfolding shared_runs_of
returns-in_err-pair-clause-leaves c = sym (left_held c.args.list.now _ (c.in_err-pair.ensures _))

pub invariant_of-window : goal.invariant_of-window
invariant_of-window c =
    let S = c.subfile-one.ensures in
    let T = c.subfile-two.ensures in
    record { ok = (shared_asks _ _ _ _ _ _ c.in_ok-pair.ensures _ _ _ _ S.selection S.families T.selection T.families).1.1 }

pub list_shared-runs-requires : goal.list_shared-runs-requires
list_shared-runs-requires c =
    let S = c.subfile-one.ensures in
    let T = c.subfile-two.ensures in
    let p = shared_asks _ _ _ _ _ _ c.in_ok-pair.ensures _ _ _ _ S.selection S.families T.selection T.families in
    record { one = p.0; two = p.1.0 }

pub returns-then-room-runs-clause-says : goal.returns-then-room-runs-clause-says
returns-then-room-runs-clause-says c =
    let l = c.list_shared-runs in
    let S = c.subfile-one.ensures in
    let T = c.subfile-two.ensures in
    room_says _ _ _ _ _ _ c.in_ok-pair.ensures _ _ _ _ S.selection S.families T.selection T.families _ _ l.ensures.number c.if-room-runs.true

pub returns-then-room-runs-clause-leaves : goal.returns-then-room-runs-clause-leaves
returns-then-room-runs-clause-leaves c =
    let l = c.list_shared-runs in
    let S = c.subfile-one.ensures in
    let T = c.subfile-two.ensures in
    room_leaves _ _ _ _ _ _ c.in_ok-pair.ensures _ _ _ _ S.selection S.families T.selection T.families _ _ l.ensures.number c.if-room-runs.true _ l.ensures.list

pub returns-clause-says : goal.returns-clause-says
returns-clause-says c =
    let l = c.list_shared-runs in
    let S = c.subfile-one.ensures in
    let T = c.subfile-two.ensures in
    runs_says _ _ _ _ _ _ c.in_ok-pair.ensures _ _ _ _ S.selection S.families T.selection T.families _ _ l.ensures.number c.if-room-runs.false

pub returns-clause-leaves : goal.returns-clause-leaves
returns-clause-leaves c =
    let l = c.list_shared-runs in
    let S = c.subfile-one.ensures in
    let T = c.subfile-two.ensures in
    runs_leaves _ _ _ _ _ _ c.in_ok-pair.ensures _ _ _ _ S.selection S.families T.selection T.families _ _ l.ensures.number c.if-room-runs.false _ l.ensures.list
