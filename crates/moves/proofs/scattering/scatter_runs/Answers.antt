-- `scatter_runs` meets its contract. The loop's invariant: the file buffer is as it shall be up to where the walk stands. Assumes nothing.
use mathlib.Core.Path.{ap}
use native.Mathlib.Omega.{arith}
use Rattle.moves.specs.declared.walks.Walk.{Walk}
use Rattle.moves.proofs.Striding.{start_near, run_held, clipped_here, onward_asks}
use Rattle.moves.proofs.Unpacking.{unpacking_start, unpacking_fits, unpacking_next, unpacking_end}
use Rattle.moves.proofs.scattering.scatter_runs.Goals as goal

pub begin-walk-requires : goal.begin-walk-requires
begin-walk-requires c = record { after = c.requires.after; near = start_near c.requires }

pub loop-walk-init : goal.loop-walk-init
loop-walk-init c =
    let buffers = c.requires.buffers in
    unpacking_start c.begin-walk.ensures _ _ _ buffers.file buffers.packed

pub run_here-run-requires : goal.run_here-run-requires
run_here-run-requires c =
    record { held = run_held c.requires c.args.track.now.ahead c.loop-walk.invariant.stands c.loop-walk-test.true; inside = omega (arith, c.loop-walk-test.true) }

pub copy_run-requires : goal.copy_run-requires
copy_run-requires c =
    let clipped = clipped_here c.requires c.args.track.now.ahead c.loop-walk.invariant.stands c.loop-walk-test.true _ c.run_here-run.ensures in
    let fits = unpacking_fits c.loop-walk.invariant c.args.track.now.ahead c.loop-walk-test.true _ clipped in
    (omega (arith, fits.0), omega (arith, fits.1))

pub onward-walk-requires : goal.onward-walk-requires
onward-walk-requires c =
    onward_asks c.requires c.args.track.now.ahead c.loop-walk.invariant.stands c.loop-walk-test.true _ c.run_here-run.ensures

pub loop-walk-smaller : goal.loop-walk-smaller
loop-walk-smaller c = omega (arith, c.loop-walk-test.true, ap (λ (w : Walk). w.at) c.onward-walk.ensures)

pub loop-walk-preserved : goal.loop-walk-preserved
loop-walk-preserved c =
    let clipped = clipped_here c.requires c.args.track.now.ahead c.loop-walk.invariant.stands c.loop-walk-test.true _ c.run_here-run.ensures in
    unpacking_next c.loop-walk.invariant c.args.track.now.ahead c.loop-walk-test.true _ clipped _ c.copy_run.ensures _ c.onward-walk.ensures

pub returns : goal.returns
returns c = unpacking_end c.loop-walk.invariant c.loop-walk-test.false
