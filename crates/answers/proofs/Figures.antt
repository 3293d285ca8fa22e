-- The line of what `check` says of layout F; a number of more than one digit; a buffer of two bytes, and one with a slot and
-- a byte behind it. Assumes nothing.
use mathlib.Core.Path.{◌≡◌, refl}
use mathlib.Core.List.{[], ◌∷◌}
use Rattle.sheets.specs.Bytes.{le16, le32}
use Rattle.words.specs.Texts.{word, decimal_in, decimal}
use Rattle.openings.specs.Said.{done}
use Rattle.said.specs.Answers.{answer_of}
use Rattle.answers.specs.Numbers.{le64, lowest, slots_in, slots_of, slot_bytes, with_slots}
use Rattle.answers.specs.Lines.{field, fields, hex, buffer, line}

layout_f : line (answer_of (done (6 ∷ 3 ∷ 2 ∷ []))) [] ≡ word "0 0 0 0 6 3 2 -\n"
unfolding word line fields field decimal_in buffer
layout_f = refl

panel_size : decimal 1920 ≡ word "1920"
unfolding word decimal_in
panel_size = refl

two_bytes : buffer (10 ∷ 255 ∷ []) ≡ word "0aff"
unfolding word buffer hex
two_bytes = refl

-- the ninth byte belongs to no slot, and stays
one_slot : slots_of (2 ∷ 1 ∷ 0 ∷ 0 ∷ 0 ∷ 0 ∷ 0 ∷ 0 ∷ 7 ∷ []) ≡ (258 ∷ [])
unfolding slots_in le64 le32 le16
one_slot = refl

one_put : with_slots (513 ∷ []) (2 ∷ 1 ∷ 0 ∷ 0 ∷ 0 ∷ 0 ∷ 0 ∷ 0 ∷ 7 ∷ []) ≡ (1 ∷ 2 ∷ 0 ∷ 0 ∷ 0 ∷ 0 ∷ 0 ∷ 0 ∷ 7 ∷ [])
unfolding with_slots slot_bytes lowest
one_put = refl
