-- `move_pair` meets its contract. Assumes nothing.
use mathlib.Core.Path.{refl, sym}
use Rattle.openings.proofs.Orders.{left_held}
use Rattle.openings.proofs.Verdicts.{passes_none}
use Rattle.openings.proofs.Faults.{pair_known}
use Rattle.astrephon.specs.Moves.{pair_move_of}
use Rattle.astrephon.proofs.TrayMoves.{move_window, move_asks, pair_absent, pair_refused, pair_done}
use Rattle.astrephon.proofs.moving.move_pair.Goals as goal

pub returns-in_err-both-clause-leaves : goal.returns-in_err-both-clause-leaves
unfolding pair_move_of
returns-in_err-both-clause-leaves c = sym (left_held c.args.tray2.now _ (c.in_err-both.ensures.0 _))

pub returns-in_err-check_pair-clause-leaves : goal.returns-in_err-check_pair-clause-leaves
returns-in_err-check_pair-clause-leaves c = let e = c.in_err-check_pair in pair_absent _ _ c.in_ok-both.ensures _ _ _ _ _ _ e.field-0.0 e.ensures

pub returns-in_err-check_trays-clause-leaves : goal.returns-in_err-check_trays-clause-leaves
returns-in_err-check_trays-clause-leaves c =
    let e = c.in_err-check_trays in
    pair_refused _ _ c.in_ok-both.ensures _ _ _ _ _ _ c.in_ok-check_pair.ensures e.field-0.0 e.ensures

pub invariant_of-window : goal.invariant_of-window
invariant_of-window c = let a = c.args in record { ok = move_window _ _ c.in_ok-both.ensures a.a.0 a.b.0 a.tray1.now a.tray2.now c.in_ok-check_trays.ensures }

pub move_pair-requires : goal.move_pair-requires
move_pair-requires c =
    let a = c.args in
    let o = c.in_ok-both.both in
    let asks = move_asks _ _ c.in_ok-both.ensures a.a.0 a.b.0 a.tray1.now a.tray2.now c.in_ok-check_trays.ensures in
    let there = pair_known o.one.layout.elements a.i o.two.layout.elements a.j (passes_none _ c.in_ok-check_pair.ensures) in
    record { first = (asks _ refl refl).0; second = (asks _ refl refl).1.0; element = there.0; other = there.1; lengths = (asks _ refl refl).1.1 }

pub returns-clause-leaves : goal.returns-clause-leaves
returns-clause-leaves c = pair_done _ _ c.in_ok-both.ensures _ _ _ _ _ _ c.in_ok-check_pair.ensures c.in_ok-check_trays.ensures _ c.move_pair.ensures
