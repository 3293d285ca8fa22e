-- `gather_runs` meets its contract. The loop's invariant: what is packed and what is left make the whole. Assumes nothing.
use mathlib.Core.Path.{ap}
use native.Mathlib.Omega.{arith}
use Rattle.moves.specs.declared.walks.Walk.{Walk}
use Rattle.moves.proofs.Striding.{start_near, run_held, clipped_here, onward_asks}
use Rattle.moves.proofs.Packing.{packing_start, packing_end, gather_fits, gather_next}
use Rattle.moves.proofs.gathering.gather_runs.Goals as goal

pub begin-walk-requires : goal.begin-walk-requires
begin-walk-requires c = record { after = c.requires.after; near = start_near c.requires }

pub loop-walk-init : goal.loop-walk-init
loop-walk-init c = packing_start c.begin-walk.ensures _ _ _ c.requires.buffers.packed

pub run_here-run-requires : goal.run_here-run-requires
run_here-run-requires c =
    record { held = run_held c.requires c.args.track.now.ahead c.loop-walk.invariant.stands c.loop-walk-test.true; inside = omega (arith, c.loop-walk-test.true) }

pub copy_run-requires : goal.copy_run-requires
copy_run-requires c =
    let clipped = clipped_here c.requires c.args.track.now.ahead c.loop-walk.invariant.stands c.loop-walk-test.true _ c.run_here-run.ensures in
    let fits = gather_fits c.args.file.now c.loop-walk.invariant c.requires.buffers.file c.args.track.now.ahead c.loop-walk-test.true _ clipped in
    (omega (arith, fits.0), omega (arith, fits.1))

pub onward-walk-requires : goal.onward-walk-requires
onward-walk-requires c =
    onward_asks c.requires c.args.track.now.ahead c.loop-walk.invariant.stands c.loop-walk-test.true _ c.run_here-run.ensures

pub loop-walk-smaller : goal.loop-walk-smaller
loop-walk-smaller c = omega (arith, c.loop-walk-test.true, ap (λ (w : Walk). w.at) c.onward-walk.ensures)

pub loop-walk-preserved : goal.loop-walk-preserved
loop-walk-preserved c =
    let clipped = clipped_here c.requires c.args.track.now.ahead c.loop-walk.invariant.stands c.loop-walk-test.true _ c.run_here-run.ensures in
    gather_next _ c.loop-walk.invariant c.requires.buffers.file c.args.track.now.ahead c.loop-walk-test.true _ clipped _ c.copy_run.ensures _ c.onward-walk.ensures

pub returns : goal.returns
returns c = packing_end c.loop-walk.invariant (omega (arith, c.loop-walk-test.false, c.requires.buffers.file))
