-- `move_tray` meets its contract. Assumes nothing.
use mathlib.Core.Path.{refl, sym}
use Rattle.openings.proofs.Orders.{left_held}
use Rattle.astrephon.specs.Moves.{move_of}
use Rattle.astrephon.proofs.TrayMoves.{moved_refused, move_window, first_starts, second_starts, move_asks, moved_done}
use Rattle.astrephon.proofs.moving.move_tray.Goals as goal

pub returns-in_err-both-clause-leaves : goal.returns-in_err-both-clause-leaves
unfolding move_of
returns-in_err-both-clause-leaves c = sym (left_held c.args.tray2.now _ (c.in_err-both.ensures.0 _))

pub returns-in_err-check_trays-clause-leaves : goal.returns-in_err-check_trays-clause-leaves
returns-in_err-check_trays-clause-leaves c = let e = c.in_err-check_trays in moved_refused _ _ c.in_ok-both.ensures _ _ _ _ e.field-0.0 e.ensures

pub invariant_of-window : goal.invariant_of-window
invariant_of-window c = let a = c.args in record { ok = move_window _ _ c.in_ok-both.ensures a.a.0 a.b.0 a.tray1.now a.tray2.now c.in_ok-check_trays.ensures }

-- the second is searched for, so that a wrong layout in its place is refused for what it writes
pub move_tray-requires : goal.move_tray-requires
move_tray-requires c =
    let a = c.args in
    let S = c.in_ok-both.ensures in
    let T = c.in_ok-check_trays.ensures in
    let first = first_starts _ _ S a.a.0 a.b.0 a.tray1.now a.tray2.now T in
    let second = second_starts _ _ S a.a.0 a.b.0 a.tray1.now a.tray2.now T in
    record { first = first _ refl; second = search second; lengths = (move_asks _ _ S a.a.0 a.b.0 a.tray1.now a.tray2.now T _ refl refl).1.1 }

pub returns-clause-leaves : goal.returns-clause-leaves
returns-clause-leaves c = moved_done _ _ c.in_ok-both.ensures _ _ _ _ c.in_ok-check_trays.ensures _ c.move_tray.ensures
