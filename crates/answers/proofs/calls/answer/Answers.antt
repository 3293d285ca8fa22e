-- `answer` meets its contract. Assumes nothing.
use mathlib.Core.Path.{◌≡◌, sym, ap, ◌∙◌}
use Rattle.answers.specs.Frames.{into_of}
use Rattle.answers.proofs.Replies.{reply_cut, reply_unknown}
use Rattle.answers.proofs.Ends.{into_room, lent_length, lent_room}
use Rattle.answers.proofs.calls.answer.Goals as goal
use Rattle.answers.proofs.calls.answer.Goals.{In_ok-frame}

pub returns-in_err-frame : goal.returns-in_err-frame
returns-in_err-frame c = rw c.from_residual.ensures (reply_cut _ c.in_err-frame.ensures)

pub returns-in_err-call : goal.returns-in_err-call
returns-in_err-call c = rw (c.from_residual-in_err-call.ensures, ← c.in_ok-frame.ensures) (reply_unknown _ c.in_ok-frame.frame.whole c.in_err-call.ensures)

-- the space is lent as far as the destination buffer of these bytes goes
destination : (c : In_ok-frame) → c.in_ok-frame.frame.destination.now ≡ into_of c.args.bytes.now
destination c = c.in_ok-frame.frame.fourth ∙ ap into_of c.in_ok-frame.ensures

pub slice_bounds-put_reply-end : goal.slice_bounds-put_reply-end
slice_bounds-put_reply-end c = into_room _ c.args.space.now (destination (goal.at.slice_bounds-put_reply-end c).In_ok-frame) c.requires

pub slice_bounds-put_reply-end-2 : goal.slice_bounds-put_reply-end-2
slice_bounds-put_reply-end-2 c = sym (lent_length _ _ (destination (goal.at.slice_bounds-put_reply-end-2 c).In_ok-frame) c.requires)

pub put_reply-requires-clause-buffered : goal.put_reply-requires-clause-buffered
put_reply-requires-clause-buffered c =
    rw c.in_ok-frame.ensures (lent_room _ c.args.space.now (destination (goal.at.put_reply-requires-clause-buffered c).In_ok-frame) c.requires).0

pub put_reply-requires-clause-short : goal.put_reply-requires-clause-short
put_reply-requires-clause-short c = (lent_room _ c.args.space.now (destination (goal.at.put_reply-requires-clause-short c).In_ok-frame) c.requires).1.0

pub put_reply-requires-clause-lined : goal.put_reply-requires-clause-lined
put_reply-requires-clause-lined c = (lent_room _ c.args.space.now (destination (goal.at.put_reply-requires-clause-lined c).In_ok-frame) c.requires).1.1
