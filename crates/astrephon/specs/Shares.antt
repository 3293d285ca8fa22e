-- THE CALL `shared_runs`: what it says, and its list afterwards. Assumes nothing: these are definitions.
use Rattle.std.specs.Prelude.{cond, List, [], ◌∷◌, ℕ, leb, length}
use Rattle.counting.specs.Runs.{Run}
use Rattle.sheets.specs.Refusals.{NO_FLAG}
use Rattle.sheets.specs.Sheet.{read_sheet, Reading}
use Rattle.openings.specs.Said.{Said, done, refused, Outcome, writing}
use Rattle.openings.specs.Refusals.{ROOM}
use Rattle.openings.specs.Offsets.{offsets_of, unless_windows}
use Rattle.runs.specs.Listing.{shared_runs, list_with, capacity}

-- THE SHARED RUNS of element i of the first sheet and element j of the second, in the window from a to b
abbrev pub runs_of_pair : (r1 r2 : Reading) → (i j a b : ℕ) → List Run
runs_of_pair r1 r2 i j a b = shared_runs (offsets_of r1 i) (offsets_of r2 j) a b

-- `next`, unless the list that is lent holds fewer than n runs: how many there are is told
unfoldable pub unless_room : (n : ℕ) → (held : List ℕ) → (next : Said) → Said
unless_room n held next = cond (leb n (capacity held)) next (refused ROOM 0 n NO_FLAG)

-- a list that holds them all has their slots, four a run, and behind them its old ones
unfoldable pub shared_runs_of : (r1 r2 : Reading) → (i j a b : ℕ) → (held : List ℕ) → Outcome
shared_runs_of r1 r2 i j a b held =
    let runs = runs_of_pair r1 r2 i j a b in
    writing (unless_windows r1 r2 i j a b (unless_room (length runs) held (done (length runs ∷ []))))
    held (list_with (offsets_of r1 i) (offsets_of r2 j) runs held)

abbrev pub shared_runs_call : (xs ys : List ℕ) → (i j a b : ℕ) → (held : List ℕ) → Outcome
shared_runs_call xs ys i j a b held = shared_runs_of (read_sheet xs) (read_sheet ys) i j a b held
