-- What is written of a lent text, and how a piece is put behind it. Assumes nothing: these are definitions.
use Rattle.std.specs.Prelude.{◌≡◌, List, ◌++◌, ℕ, ◌+◌, ◌≤◌, length, take}
use Rattle.words.specs.declared.Text.{Text}

-- the bytes written
abbrev pub written : Text → List ℕ
written t = take t.len t.bytes.now

-- k bytes more may be written
abbrev pub HasRoom : (k : ℕ) → Text → Type 0
HasRoom k t = t.len + k ≤ length t.bytes.now

-- the piece, of at most `most` bytes, was put behind what was written of the same lent bytes
pub record Put (piece : List ℕ) (most : ℕ) (before after : Text) : Type 0 where
  pub text : written after ≡ written before ++ piece
  pub short : after.len ≤ before.len + most
  pub kept : length after.bytes.now ≡ length before.bytes.now
  pub same_reference : after.bytes.ghost_name ≡ before.bytes.ghost_name
