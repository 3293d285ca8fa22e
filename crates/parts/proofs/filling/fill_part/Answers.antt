-- `fill_part` meets its contract. The loop's invariant: what is filled and what is left make the whole. Assumes nothing.
use mathlib.Core.Path.{sym, ◌∙◌}
use Prim.Native.Nat.{◌≤◌}
use native.Mathlib.Omega.{arith}
use Rattle.maps.specs.Selected.{belongs}
use Rattle.parts.specs.Pieces.{bytes_of}
use Rattle.moves.proofs.Striding.{clipped_here, onward_asks}
use Rattle.parts.proofs.Piecing.{step_just}
use Rattle.parts.proofs.Renewing.{renewing_start, renewing_end, AtPiece, owner_asked, source_asked, copy_asked, far_least, far_over, piece_forward, piece_copied, piece_passed}
use Rattle.parts.proofs.filling.fill_part.Goals as goal
use Rattle.parts.proofs.filling.fill_part.Goals.{After-piece_at-piece, then-taken+then-is_some, then-taken+else-is_some, else-taken}

-- what is known at a piece
here : (c : After-piece_at-piece) →
    let args = c.args in
    let sources = args.sources.now in
    let track = args.track.now in
    let subfile = track.subfile in
    AtPiece subfile.selection (belongs subfile.selection subfile.families.now) track.strides.now args.window.start.0 (bytes_of args.window)
    sources.cycle sources.owners.now sources.strides.now sources.ranks.now sources.shares.now args.only
    args.tray.now args.part.now c.loop-walk.part c.loop-walk.walk c.run_here-run.result c.piece_at-piece.result
here c =
    let stands = c.loop-walk.invariant.packing.stands in
    record {
      ahead = c.args.track.now.ahead;
      sources = c.requires.sources;
      long = c.requires.carries.buffers.file;
      renewing = c.loop-walk.invariant;
      inside = omega (arith, c.loop-walk-test.true, c.requires.carries.buffers.file);
      clipped = clipped_here c.requires.carries c.args.track.now.ahead stands c.loop-walk-test.true _ c.run_here-run.ensures;
      is = c.piece_at-piece.ensures;
    }

pub loop-walk-init : goal.loop-walk-init
loop-walk-init c =
    renewing_start c.begin-walk.ensures _ _ _ _ c.requires.carries.buffers.packed

pub takes-taken-requires : goal.takes-taken-requires
takes-taken-requires c = owner_asked (here (goal.at.takes-taken-requires c).After-piece_at-piece)

pub source_of-source-requires : goal.source_of-source-requires
source_of-source-requires c = source_asked (here (goal.at.source_of-source-requires c).After-piece_at-piece)

pub copy_run-requires : goal.copy_run-requires
copy_run-requires c =
    let fits = copy_asked (here (goal.at.copy_run-requires c).After-piece_at-piece) _ c.source_of-source.ensures in
    (omega (arith, fits.0), omega (arith, fits.1))

pub further-walk-requires-clause-onward : goal.further-walk-requires-clause-onward
further-walk-requires-clause-onward c =
    onward_asks c.requires.carries c.args.track.now.ahead c.loop-walk.invariant.packing.stands c.loop-walk-test.true _ c.run_here-run.ensures

pub loop-walk-smaller : goal.loop-walk-smaller
loop-walk-smaller c =
    let A = here (goal.at.loop-walk-smaller c).After-piece_at-piece in
    let least : c.piece_at-piece.result.len ≤ c.if-taken.step = elim c.if-taken.branch [
      | then-taken+then-is_some w ↦ rw w.step-is (far_least A _ (w.beyond-step.ensures.ended, w.beyond-step.ensures.whole))
      | then-taken+else-is_some w ↦ omega arith
      | else-taken w ↦ omega arith
    ] in
    omega (arith, piece_forward A _ c.further-walk.ensures least, A.inside, A.long)

pub loop-walk-preserved : goal.loop-walk-preserved
loop-walk-preserved c =
    let A = here (goal.at.loop-walk-preserved c).After-piece_at-piece in
    let on = c.further-walk.ensures in
    elim c.if-taken.branch [
      | then-taken+then-is_some w ↦
          let its = sym c.takes-taken.ensures ∙ w.if-taken.true in
          let far = far_over A _ (w.beyond-step.ensures.ended, w.beyond-step.ensures.whole) its (sym w.is_some.ensures ∙ w.if-is_some.true) in
          piece_copied A _ on (rw w.step-is far) its _ w.source_of-source.ensures _ (w.part-is ∙ w.copy_run.ensures)
      | then-taken+else-is_some w ↦
          let its = sym c.takes-taken.ensures ∙ w.if-taken.true in
          piece_copied A _ on (step_just _ _ _ w.step-is) its _ w.source_of-source.ensures _ (w.part-is ∙ w.copy_run.ensures)
      | else-taken w ↦ piece_passed A _ on (step_just _ _ _ w.step-is) (sym c.takes-taken.ensures ∙ w.if-taken.false) _ w.part-is
    ]

pub returns : goal.returns
returns c =
    renewing_end c.loop-walk.invariant (omega (arith, c.loop-walk-test.false, c.requires.carries.buffers.file))
