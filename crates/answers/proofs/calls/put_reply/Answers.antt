-- `put_reply` meets its contract: the call is made on a copy of the frame's destination buffer. Assumes nothing.
use mathlib.Core.Path.{◌∙◌}
use Rattle.answers.proofs.Replies.{reply_told}
use Rattle.answers.proofs.calls.put_reply.Goals as goal

pub returns-clause-line : goal.returns-clause-line
returns-clause-line c =
    c.put_line.ensures.line
    ∙ reply_told _ c.args.frame.now.whole _ c.requires.called (c.copy_from_slice.ensures.after ∙ c.args.frame.now.fourth) c.make-answer.ensures
