-- `put_slot` meets its contract. Assumes nothing.
use mathlib.Core.Path.{sym, ◌∙◌}
use native.Mathlib.Omega.{arith}
use Rattle.std.proofs.lemmas.Slice.{put_mid-paste}
use Rattle.answers.proofs.Slots.{lowest_bytes, lowest_length}
use Rattle.answers.proofs.numbers.put_slot.Goals as goal

pub returns : goal.returns
returns c =
    put_mid-paste c.args.at _ c.args.bytes.now c.copy_from_slice.new.self _ 8
    (c.copy_from_slice.ensures.after ∙ c.to_le_bytes.ensures ∙ sym (lowest_bytes c.args.number)) (omega arith) (sym (lowest_length 8 c.args.number))
