-- Where a walk over the selected bytes of a window stands. Assumes nothing: these are definitions.
use Rattle.std.specs.Prelude.{◌≡◌, Bool, true, false, List, ℕ, ◌+◌, ◌-◌, ◌%◌, ◌≤◌, ◌<◌}
use Rattle.counting.specs.Count.{count_in}
use Rattle.families.specs.declared.Family.{Family}
use Rattle.maps.specs.declared.Selection.{Selection}
use Rattle.maps.specs.declared.window.Window.{Window}
use Rattle.maps.specs.Selected.{belongs}
use Rattle.moves.specs.declared.walks.Walk.{Walk}

-- w stands at a selected offset of the window of n offsets from a on, or past it: what is packed and what is left make the whole
pub record Stands (s : Selection) (p : ℕ → Bool) (a n : ℕ) (w : Walk) : Type 0 where
  pub after : s.from ≤ a
  pub here : p (a + w.at) ≡ true
  pub place : w.place ≡ (a + w.at - s.from) % s.period
  pub left : w.packed + count_in p (a + w.at) (n - w.at) ≡ count_in p a n

-- w stands at the first selected offset from a on
pub record Begun (s : Selection) (p : ℕ → Bool) (a : ℕ) (w : Walk) : Type 0 where
  pub stands : (n : ℕ) → Stands s p a n w
  pub none : (y : ℕ) → y < w.at → p (a + y) ≡ false
  pub first : w.packed ≡ 0

-- a file buffer of n bytes for a window, and a packed one of k
pub record Buffers (p : ℕ → Bool) (window : Window) (n k : ℕ) : Type 0 where
  pub file : n ≡ window.end.0 - window.start.0
  pub packed : k ≡ count_in p window.start.0 (window.end.0 - window.start.0)

-- what the code asks of a window that is not empty, and of its buffers
pub record Carries (s : Selection) (families : List Family) (window : Window) (n k : ℕ) : Type 0 where
  pub after : s.from ≤ window.start.0
  pub some : window.start.0 < window.end.0
  pub buffers : Buffers (belongs s families) window n k
