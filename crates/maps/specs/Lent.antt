-- What a subfile that is lent selects. Assumes nothing: this is a definition.
use Rattle.std.specs.Prelude.{ℕ, Bool}
use Rattle.maps.specs.declared.subfile.Subfile.{Subfile}
use Rattle.maps.specs.Selected.{belongs}

-- THE FILE OFFSETS of a subfile: those of its selection
abbrev pub bytes_in : Subfile → ℕ → Bool
bytes_in s = belongs s.selection s.families.now
