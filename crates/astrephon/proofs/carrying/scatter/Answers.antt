-- `scatter` meets its contract. Assumes nothing.
use mathlib.Core.Path.{refl, sym}
use Rattle.openings.proofs.Orders.{left_held}
use Rattle.astrephon.specs.Carries.{scatter_of}
use Rattle.astrephon.proofs.Transfers.{carry_window, carry_side, carry_buffers, scattered_done}
use Rattle.astrephon.proofs.carrying.scatter.Goals as goal

pub returns-in_err-opening-clause-leaves : goal.returns-in_err-opening-clause-leaves
unfolding scatter_of
returns-in_err-opening-clause-leaves c = sym (left_held c.args.file.now _ (c.in_err-opening.ensures _))

pub invariant_of-window : goal.invariant_of-window
invariant_of-window c = let O = c.in_ok-opening.ensures in record { ok = carry_window _ _ _ _ _ _ O.0 O.1 }

pub scatter-requires : goal.scatter-requires
scatter-requires c =
    let O = c.in_ok-opening.ensures in
    let S = c.subfile.ensures in
    record {
      side = carry_side _ _ _ _ _ _ O.0 O.1 _ _ S.selection S.families;
      buffers = carry_buffers _ _ _ _ _ _ O.0 O.1 _ _ S.selection S.families _ refl refl;
    }

pub returns-clause-leaves : goal.returns-clause-leaves
returns-clause-leaves c =
    let O = c.in_ok-opening.ensures in
    let S = c.subfile.ensures in
    scattered_done _ _ _ _ _ _ _ O.1 _ _ S.selection S.families O.0 c.scatter.ensures
