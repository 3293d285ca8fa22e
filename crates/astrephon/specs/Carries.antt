-- THE CALLS between a file buffer and one element's packed bytes: `packed_len`, `gather` and `scatter`. Assumes nothing: these are definitions.
use Rattle.std.specs.Prelude.{List, [], ◌∷◌, ℕ, ◌-◌, length}
use Rattle.counting.specs.Gather.{in_file, gathered, scattered}
use Rattle.sheets.specs.Sheet.{read_sheet, Reading}
use Rattle.openings.specs.Said.{Said, done, Outcome, writing}
use Rattle.openings.specs.Offsets.{offsets_of, unless_window}
use Rattle.openings.specs.Buffers.{packed_length, unless_buffers}

-- PACKED LENGTH: how many bytes of the window are the element's
unfoldable pub packed_length_of : Reading → (e a b : ℕ) → Said
packed_length_of r e a b = unless_window r e a b (done (packed_length r e a b ∷ []))

-- GATHER: those bytes of a file buffer, in file order, fill the packed buffer
unfoldable pub gather_of : Reading → (e a b : ℕ) → (file held : List ℕ) → Outcome
gather_of r e a b file held = writing (unless_buffers r e a b (length file) (length held) (done [])) held (gathered (offsets_of r e) a (b - a) (in_file a file))

-- SCATTER: the packed bytes go to those places of the file buffer, and every other byte of it stays
unfoldable pub scatter_of : Reading → (e a b : ℕ) → (packed held : List ℕ) → Outcome
scatter_of r e a b packed held = writing (unless_buffers r e a b (length held) (length packed) (done [])) held (scattered (offsets_of r e) a (b - a) packed held)

abbrev pub packed_length_call : List ℕ → (e a b : ℕ) → Said
packed_length_call xs e a b = packed_length_of (read_sheet xs) e a b

abbrev pub gather_call : List ℕ → (e a b : ℕ) → (file held : List ℕ) → Outcome
gather_call xs e a b file held = gather_of (read_sheet xs) e a b file held

abbrev pub scatter_call : List ℕ → (e a b : ℕ) → (packed held : List ℕ) → Outcome
scatter_call xs e a b packed held = scatter_of (read_sheet xs) e a b packed held
