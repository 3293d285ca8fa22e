-- `family_fault` meets its contract. Assumes nothing.
use mathlib.Core.Path.{sym, ◌∙◌}
use Rattle.sheets.proofs.Faults.{segment_taken}
use Rattle.sheets.proofs.records.family_fault.Goals as goal

pub last_byte-requires-clause-some : goal.last_byte-requires-clause-some
last_byte-requires-clause-some c = (segment_taken c.args.f (sym c.bad_segment.ensures ∙ c.if-bad_segment.false)).0

pub last_byte-requires-clause-forward : goal.last_byte-requires-clause-forward
last_byte-requires-clause-forward c = (segment_taken c.args.f (sym c.bad_segment.ensures ∙ c.if-bad_segment.false)).1
