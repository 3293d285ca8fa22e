-- Parts of trays: a tray of which some parts are moved, and what the code asks of the layouts, of what is written down of them, and of the trays. Assumes
-- nothing: these are definitions.
use Rattle.std.specs.Prelude.{◌≡◌, Bool, ◌&&◌, cond, List, IfSome, ℕ, ◌≤◌, ◌<◌, leb, ltb}
use Rattle.counting.specs.Elements.{Elements, first_of}
use Rattle.counting.specs.Trays.{tray, in_tray}
use Rattle.families.specs.declared.Layout.{Layout}
use Rattle.maps.specs.declared.window.Window.{Window}
use Rattle.maps.specs.Selected.{selection_of, belongs, elements_of, PatternOk}
use Rattle.moves.specs.declared.ahead.Stride.{Stride}
use Rattle.moves.specs.Strides.{Strides}
use Rattle.parts.specs.declared.choices.Chosen.{Chosen}
use Rattle.parts.specs.declared.pieces.Cycle.{Cycle}
use Rattle.parts.specs.declared.shares.Share.{Share}
use Rattle.parts.specs.Pieces.{bytes_of, SharesOf, takes}
use Rattle.trays.specs.declared.filling.Targets.{Targets}

-- ---- what is moved
-- x's element of M is one of those from `first` up to but not including `last`
abbrev pub within : Elements → (first last : ℕ) → ℕ → Bool
within M first last x = leb first (first_of M x) && ltb (first_of M x) last

-- THE TRAY u OF M with t's bytes, t a tray of L, at the numbers that are chosen in both
unfoldable pub moved_where : (L M : Elements) → (a n : ℕ) → (t : List ℕ) → Chosen → (u : List ℕ) → List ℕ
moved_where L M a n t c u =
    tray M a n (λ x. cond (takes L c.only x && within M c.first c.last x) (in_tray L a n t x) (in_tray M a n u x))

-- what the code asks of a choice
pub record ChosenOk (c : Chosen) (one two : ℕ) : Type 0 where
  pub only : IfSome c.only (λ e. e < one)
  pub ordered : c.first ≤ c.last
  pub most : c.last ≤ two

-- ---- what is written down of the second layout, of which the parts are filled
pub record Prepared (t : Layout) (size : ℕ) (w : Window) (strides : List Stride) (shares : List Share) : Type 0 where
  pub after : t.displacement ≤ w.start.0
  pub ahead : (e : ℕ) → e < t.elements → Strides (selection_of t size e) (belongs (selection_of t size e) t.family) strides
  pub shared : SharesOf (elements_of t size) t.displacement size w.start.0 (bytes_of w) shares

abbrev pub TargetsOk : Targets → Window → Type 0
TargetsOk s w = Prepared s.pattern.layout.now s.pattern.size w s.strides.now s.shares.now

-- .. and of two trays, also for a window that is not empty
pub record Lengths (w : Window) (one two : ℕ) : Type 0 where
  pub first : one ≡ bytes_of w
  pub second : two ≡ bytes_of w

pub record TraysOk (w : Window) (one two : ℕ) : Type 0 where
  pub some : w.start.0 < w.end.0
  pub long : Lengths w one two

-- ---- what the code asks of a layout and a window that starts in it
pub record Starts (t : Layout) (size : ℕ) (w : Window) : Type 0 where
  pub pattern : PatternOk t size
  pub after : t.displacement ≤ w.start.0

-- the cycle of a layout
abbrev pub cycle_of : Layout → (size : ℕ) → Cycle
cycle_of t size = record { from = t.displacement; period = size; elements = t.elements }
