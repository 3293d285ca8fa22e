-- Which tables have room for a selection. Assumes nothing.
use mathlib.Core.Path.{◌≡◌, sym, ◌∙◌}
use mathlib.Core.Bool.{Bool, true, ◌&&◌, and-eq-true_iff}
use mathlib.Core.List.{List}
use Prim.Native.Nat.{ℕ, ◌-◌, ◌≤◌}
use native.Mathlib.Omega.{arith}
use lib.Dec.{leb}
use borrow.Author.Tests.{leb-true}
use Rattle.families.specs.declared.Family.{Family}
use Rattle.families.specs.Forest.{end_of}
use Rattle.families.proofs.Forests.{wf_ended}
use Rattle.maps.specs.declared.Selection.{Selection}
use Rattle.maps.specs.Selected.{families_of}
use Rattle.maps.proofs.Mapped.{period_some}
use Rattle.runs.specs.Walking.{SideOk}

-- ---- a smaller table, where the families and the period fit it
pub side_smaller : {s : Selection} {families : List Family} {n start : ℕ} → SideOk s families n start → (room : ℕ) (b : Bool)
    → b ≡ (leb (end_of (families_of s families)) room && leb s.period room) → b ≡ true → SideOk s families room start
side_smaller {s} {families} {n} {start} A room b e fit =
    let both = (and-eq-true_iff (leb (end_of (families_of s families)) room) (leb s.period room)).0 (sym e ∙ fit) in
    let period : s.period ≤ room = leb-true _ _ both.1 in
    let end : end_of (families_of s families) ≤ room = leb-true _ _ both.0 in
    record {
      ok = A.ok;
      fits = record { ruled = wf_ended (families_of s families) 0 (n - 1) (room - 1) A.fits.ruled (omega (arith, period_some A.ok)); period = period };
      after = A.after;
    }
