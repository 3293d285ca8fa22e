-- Pieces of a part: an element's share of a window, the piece of a run that one element of another layout has, and a part that is renewed by such pieces.
-- Assumes nothing: these are definitions.
use Rattle.std.specs.Prelude.{◌≡◌, Bool, true, cond, List, Option, None, Some, ℕ, suc, ◌+◌, ◌-◌, ◌*◌, ◌/◌, ◌%◌, ◌^◌, ◌≤◌, ◌<◌, min, eqb, length, get_or, take}
use Rattle.counting.specs.Count.{count_below, count_in}
use Rattle.counting.specs.Gather.{gathered}
use Rattle.counting.specs.Elements.{Elements, element}
use Rattle.counting.specs.Trays.{counts}
use Rattle.maps.specs.declared.window.Window.{Window}
use Rattle.moves.specs.declared.ahead.Stride.{Stride}
use Rattle.moves.specs.Strides.{stride_at, AheadBy, around}
use Rattle.moves.specs.Owning.{held_by}
use Rattle.parts.specs.declared.choices.Chosen.{Chosen}
use Rattle.parts.specs.declared.pieces.Cycle.{Cycle}
use Rattle.parts.specs.declared.pieces.Piece.{Piece}
use Rattle.parts.specs.declared.pieces.Sources.{Sources}
use Rattle.parts.specs.declared.shares.Share.{Share}
use Rattle.parts.specs.Tabled.{tabled, Owned, Ranked}

-- how many offsets a window has
abbrev pub bytes_of : Window → ℕ
bytes_of w = w.end.0 - w.start.0

-- ---- shares
-- element e's
abbrev pub share_at : List Share → (e : ℕ) → Share
share_at shares e = get_or shares e (record { start = record { 0 = 0 }; count = 0; before = record { 0 = 0 }; size = 0 })

-- element e's share of the n numbers from a on: where its part of the tray starts and how long it is, how many of its numbers lie before a, and how many
-- of the `period` from `from` on it has
pub record ShareOf (L : Elements) (from period a n e : ℕ) (share : Share) : Type 0 where
  pub start : share.start.0 ≡ counts (take e L) a n
  pub count : share.count ≡ count_in (element L e) a n
  pub before : share.before.0 ≡ count_below (element L e) a
  pub size : share.size ≡ count_in (element L e) from period

pub record SharesOf (L : Elements) (from period a n : ℕ) (shares : List Share) : Type 0 where
  pub held : length L ≤ length shares
  pub each : (e : ℕ) → e < length L → ShareOf L from period a n e (share_at shares e)

-- ---- pieces
-- the elements that a cycle and its table of owners stand for
abbrev pub elements_by : Cycle → (owners : List ℕ) → Elements
elements_by c owners = tabled c.elements c.from c.period owners

-- THE SOURCES: what is written down of the first layout for a window of n offsets from a on
pub record Written (c : Cycle) (a n : ℕ) (owners : List ℕ) (strides : List Stride) (ranks : List ℕ) (shares : List Share) : Type 0 where
  pub owned : Owned c.elements c.period owners
  pub some : 1 ≤ c.period
  pub short : c.period ≤ 2 ^ 16
  pub after : c.from ≤ a
  pub near : a + n ≤ 2 ^ 40
  pub held : c.period ≤ length strides
  pub ahead : (u : ℕ) → u < c.period → AheadBy (around (held_by owners (get_or owners u 0)) c.period) u c.period strides u
  pub ranked : Ranked owners c.period ranks
  pub shared : SharesOf (elements_by c owners) c.from c.period a n shares

abbrev pub SourcesOk : Sources → (a n : ℕ) → Type 0
SourcesOk t a n = Written t.cycle a n t.owners.now t.strides.now t.ranks.now t.shares.now

-- x's place in its period
abbrev pub place_in : Cycle → (x : ℕ) → ℕ
place_in c x = (x - c.from) % c.period

-- the piece of at most `run` numbers from x on, which one element has
abbrev pub piece_at : Cycle → (owners : List ℕ) → (strides : List Stride) → (x run : ℕ) → Piece
piece_at c owners strides x run =
    let place = place_in c x in
    record { owner = get_or owners place 0; len = min run ((stride_at strides place).run + 1); place = place; whole = (x - c.from) / c.period }

-- how many of its owner's numbers lie before it, and where its bytes stand in the tray
abbrev pub rank_of : (ranks : List ℕ) → (shares : List Share) → Piece → ℕ
rank_of ranks shares p = p.whole * (share_at shares (p.owner - 1)).size + get_or ranks p.place 0

abbrev pub source_of : (ranks : List ℕ) → (shares : List Share) → Piece → ℕ
source_of ranks shares p = let share = share_at shares (p.owner - 1) in share.start.0 + (rank_of ranks shares p - share.before.0)

-- what the code asks of the tables for a piece at x, and for its place in the tray
pub record PieceOk (c : Cycle) (owners : List ℕ) (strides : List Stride) (x : ℕ) : Type 0 where
  pub some : 1 ≤ c.period
  pub owners_held : c.period ≤ length owners
  pub strides_held : c.period ≤ length strides
  pub after : c.from ≤ x
  pub near : x < 2 ^ 40

pub record SourceOk (ranks : List ℕ) (shares : List Share) (p : Piece) : Type 0 where
  pub number : 1 ≤ p.owner
  pub ranked : p.place < length ranks
  pub shared : p.owner - 1 < length shares
  pub after : (share_at shares (p.owner - 1)).before.0 ≤ rank_of ranks shares p
  pub near : (share_at shares (p.owner - 1)).start.0 + rank_of ranks shares p < 2 ^ 41

-- ---- what is moved
-- every number, or those that element `only` has
abbrev pub takes : Elements → (only : Option ℕ) → ℕ → Bool
takes L None x = true
takes L (Some e) x = element L e x

-- .. as an owner's number tells
abbrev pub taken_from : (only : Option ℕ) → (owner : ℕ) → Bool
taken_from None owner = true
taken_from (Some e) owner = eqb (suc e) owner

-- A PART RENEWED: the bytes of q's numbers, those that are taken with f's byte, and all others as they were
unfoldable pub renewed : (q : ℕ → Bool) → (a n : ℕ) → (taken : ℕ → Bool) → (f : ℕ → ℕ) → (old : List ℕ) → List ℕ
renewed q a n taken f old = gathered q a n (λ x. cond (taken x) (f x) (get_or old (count_in q a (x - a)) 0))

-- all, to each of so many elements; and what element i has, to element j
abbrev pub every_pair : (elements : ℕ) → Chosen
every_pair elements = record { only = None; first = 0; last = elements }

abbrev pub one_pair : (i j : ℕ) → Chosen
one_pair i j = record { only = Some i; first = j; last = j + 1 }
