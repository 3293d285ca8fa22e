-- What calls one after the other are asked to be given: sheets that are accepted, one window, and buffers of its length. Assumes nothing: these are definitions.
use Rattle.std.specs.Prelude.{List, [], ◌∷◌, ◌≡◌, ℕ, ◌-◌, ◌≤◌, ◌<◌, length}
use Rattle.sheets.specs.Sheet.{read_sheet}
use Rattle.openings.specs.Offsets.{LIMIT}
use Rattle.openings.specs.Buffers.{packed_length}

-- an accepted sheet, and a window that starts at or after its displacement
pub record Takes (xs : List ℕ) (a : ℕ) : Type 0 where
  pub fine : (read_sheet xs).number ≡ 0
  pub after : (read_sheet xs).layout.displacement ≤ a

-- the window ends no earlier than it starts, and by 2^40
pub record Forward (a b : ℕ) : Type 0 where
  pub forward : a ≤ b
  pub near : b ≤ LIMIT

-- a stop of a chain: a sheet, and the buffer that its tray goes to
abbrev pub Stop : Type 0
Stop = List ℕ × List ℕ

-- all sheets of a chain take the window, and each buffer is as long
unfoldable pub AllTake : List Stop → (a b : ℕ) → Type 0
AllTake [] a b = Unit {0}
AllTake (s ∷ rest) a b = Takes s.0 a × (length s.1 ≡ b - a) × AllTake rest a b

-- packed buffers, each of which has the length that is asked for
abbrev pub Packs : (xs : List ℕ) → (packs : ℕ → List ℕ) → (a b : ℕ) → Type 0
Packs xs packs a b = (e : ℕ) → e < (read_sheet xs).layout.elements → length (packs e) ≡ packed_length (read_sheet xs) e a b
