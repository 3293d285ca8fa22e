-- What `gather` and `scatter` ask of what they call, and an empty window. Assumes nothing.
use mathlib.Core.Path.{◌≡◌, sym, ◌∙◌}
use mathlib.Core.Bool.{Bool}
use mathlib.Core.List.{List}
use Prim.Native.Nat.{ℕ, ◌-◌, ◌≤◌, ◌<◌}
use native.Mathlib.Omega.{arith}
use lib.ListN.{length}
use lib.Seq.{take_all}
use Rattle.counting.specs.Gather.{in_file, gathered, scattered}
use Rattle.counting.proofs.Counts.{count_in_le}
use Rattle.counting.proofs.Gathers.{tabulated_ext, tabulated_whole, gathered_none}
use Rattle.families.specs.declared.Family.{Family}
use Rattle.maps.specs.declared.Selection.{Selection}
use Rattle.maps.specs.declared.window.Window.{Window}
use Rattle.maps.specs.Selected.{belongs}
use Rattle.runs.specs.Walking.{SideOk}
use Rattle.moves.specs.Walks.{Buffers, Carries}

-- ---- a window that is not empty
pub carries_of : {s : Selection} {families : List Family} {window : Window} {n m k : ℕ} → SideOk s families n window.start.0
    → Buffers (belongs s families) window m k → window.start.0 < window.end.0 → Carries s families window m k
carries_of side buffers some = record { after = side.after; some = some; buffers = buffers }

-- ---- an empty window
module _ {p : ℕ → Bool} {window : Window} (file packed : List ℕ) (B : Buffers p window (length file) (length packed))
    (empty : window.end.0 ≤ window.start.0) where
  abbrev a : ℕ
  a = window.start.0

  abbrev n : ℕ
  n = window.end.0 - window.start.0

  pub gather_empty : packed ≡ gathered p a n (in_file a file)
  gather_empty =
      let none : length packed ≤ 0 = omega (arith, B.packed, count_in_le p a n) in
      sym (take_all 0 packed none) ∙ sym (gathered_none p a n (in_file a file) (omega arith))

  pub scatter_empty : file ≡ scattered p a n packed file
  unfolding scattered
  scatter_empty = sym (tabulated_whole a n file B.file) ∙ tabulated_ext a n _ _ (λ x h k. absurd (omega arith))
