-- THE CALL `list_sheet`: the listing of a sheet, for people to read. It is a text for a refused sheet too, so a buffer that is too short is all that is
-- refused. Assumes nothing: these are definitions.
use Rattle.std.specs.Prelude.{List, [], ◌∷◌, ◌++◌, ℕ, ltb, length, drop}
use Rattle.sheets.specs.Refusals.{◌when◌}
use Rattle.sheets.specs.Sheet.{read_sheet}
use Rattle.lines.specs.Listing.{listing}
use Rattle.openings.specs.Said.{done, Outcome, writing}
use Rattle.openings.specs.Refusals.{BUFFER, unless_fault}

-- a text at the front of what a buffer held; later bytes stay
unfoldable pub text_outcome : (text held : List ℕ) → Outcome
text_outcome text held = writing (unless_fault ((BUFFER when ltb (length held) (length text)) ∷ []) (done (length text ∷ []))) held (text ++ drop (length text) held)

abbrev pub listing_call : List ℕ → (held : List ℕ) → Outcome
listing_call xs held = text_outcome (listing (read_sheet xs)) held
