-- What the engines ask of an element that was opened. Assumes nothing.
use mathlib.Core.List.{List}
use Prim.Native.Nat.{ℕ, ◌≤◌}
use Rattle.families.specs.declared.Family.{Family}
use Rattle.sheets.specs.Sheet.{Reading}
use Rattle.maps.specs.declared.Selection.{Selection}
use Rattle.openings.proofs.Opens.{Opened}
use Rattle.runs.specs.Walking.{SideOk}

pub side_ok : {r : Reading} {e : ℕ} {s : Selection} {families : List Family} → Opened r e s families → (start : ℕ) → s.from ≤ start → SideOk s families 65536 start
side_ok O start after = record { ok = O.ok; fits = record { ruled = O.ruled; period = O.short }; after = after }
