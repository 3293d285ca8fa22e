-- A track: what its two tables select, and walks on it. Assumes nothing: these are definitions.
use Rattle.std.specs.Prelude.{Bool, ℕ}
use Rattle.runs.specs.declared.track.Track.{Track}
use Rattle.runs.specs.declared.walks.Walk.{Walk}
use Rattle.runs.specs.Walking.{tabled, WalksTo, Passed}

-- the selections that its tables stand for
abbrev pub first_on : Track → ℕ → Bool
first_on t = tabled t.one.selection t.one.table.now

abbrev pub second_on : Track → ℕ → Bool
second_on t = tabled t.two.selection t.two.table.now

-- w stands on the track
abbrev pub WalksOn : Track → (w : Walk) → Type 0
WalksOn t w = WalksTo t.end.0 t.one.selection t.two.selection t.one.table.now t.two.table.now w

-- the walk went on it from an offset to where `to` stands, over offsets that are all as wanted
abbrev pub PassedOn : Track → (wanted : Bool) → (from : ℕ) → (to : Walk) → Type 0
PassedOn t wanted from to = Passed t.one.selection t.two.selection t.one.table.now t.two.table.now wanted t.end.0 from to
