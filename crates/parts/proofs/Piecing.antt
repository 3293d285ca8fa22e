-- The piece of a run that one element of a table's layout has, and where it stands in the tray. Assumes nothing.
use mathlib.Core.Path.{◌≡◌, refl, sym, ap, ap₂, ◌∙◌}
use mathlib.Core.Bool.{Bool, true, false, true≢false}
use mathlib.Core.List.{List}
use mathlib.Core.Logic.{⊎_elim}
use Rattle.std.specs.Prelude.{Option, None, Some}
use Rattle.std.specs.Option.{is_some}
use Prim.Native.Nat.{ℕ, suc, ◌+◌, ◌-◌, ◌*◌, ◌/◌, ◌≤◌, ◌<◌, min}
use native.Mathlib.Nat.{mod-lt}
use native.Mathlib.Omega.{arith}
use lib.ListN.{length, get_or}
use borrow.Author.Tests.{eqb-true, eq-eqb}
use Rattle.counting.specs.Count.{count_below, count_in}
use Rattle.counting.specs.Periodic.{owns}
use Rattle.counting.specs.Elements.{Elements, element, Partition}
use Rattle.counting.specs.Trays.{tray_place}
use Rattle.counting.proofs.Cases.{by_test, lt_or_le}
use Rattle.counting.proofs.Counts.{count_window, count_mono, count_le}
use Rattle.counting.proofs.Periods.{rank_owns, period_count}
use Rattle.counting.proofs.Elements.{first_only}
use Rattle.counting.proofs.Trays.{place_within}
use Rattle.counting.proofs.TrayParts.{place_of}
use Rattle.parts.specs.declared.pieces.Cycle.{Cycle}
use Rattle.parts.specs.declared.pieces.Piece.{Piece}
use Rattle.parts.specs.declared.shares.Share.{Share}
use Rattle.moves.specs.declared.ahead.Stride.{Stride}
use Rattle.moves.specs.Strides.{stride_at, Ahead}
use Rattle.moves.specs.Owning.{held_by}
use Rattle.parts.specs.Pieces.{share_at, ShareOf, elements_by, Written, place_in, piece_at, rank_of, source_of, SourceOk, takes, taken_from}
use Rattle.moves.proofs.Looking.{ahead_shifted, from_place}
use Rattle.parts.proofs.Cycling.{length_tabled, element_tabled, tabled_once}

-- a piece of at most `run` numbers from x on: one element has it all
pub record PieceOf (L : Elements) (x run : ℕ) (piece : Piece) : Type 0 where
  pub some : 1 ≤ piece.len
  pub most : piece.len ≤ run
  pub number : 1 ≤ piece.owner
  pub all : (y : ℕ) → y < piece.len → element L (piece.owner - 1) (x + y) ≡ true

-- a step over a piece of `len` numbers, and over others that are not taken
pub record StepOver (L : Elements) (only : Option ℕ) (x len step : ℕ) : Type 0 where
  pub least : len ≤ step
  pub none : (y : ℕ) → len ≤ y → y < step → takes L only (x + y) ≡ false

pub step_just : (L : Elements) (only : Option ℕ) (x : ℕ) {len step : ℕ} → step ≡ len → StepOver L only x len step
step_just L only x e = record { least = omega arith; none = λ y k l. absurd (omega arith) }

-- the element whose number is an owner's
owner_of : (e owner : ℕ) → taken_from (Some e) owner ≡ true → e ≡ owner - 1
owner_of e owner its = omega (arith, eqb-true (suc e) owner its)

-- ---- by the sources
module _ {c : Cycle} {a n : ℕ} {owners : List ℕ} {strides : List Stride} {ranks : List ℕ} {shares : List Share} (S : Written c a n owners strides ranks shares) where
  pub sources_once : Partition (elements_by c owners) a n
  sources_once = tabled_once c.elements c.from c.period owners S.owned S.some a n S.after

  -- ---- at a number of the window
  module _ {at : ℕ} (inside : at < n) where
    abbrev x : ℕ
    x = a + at

    abbrev place : ℕ
    place = place_in c x

    abbrev owner : ℕ
    owner = get_or owners place 0

    abbrev L : Elements
    L = elements_by c owners

    place_inside : place < c.period
    place_inside = mod-lt (x - c.from) S.some

    owner_some : 1 ≤ owner
    owner_some = S.owned.some place place_inside

    owner_most : owner ≤ c.elements
    owner_most = S.owned.most place place_inside

    owner_there : owner - 1 < length L
    owner_there = omega (arith, length_tabled c.elements c.from c.period owners, owner_some, owner_most)

    owner_element : element L (owner - 1) ≡ owns c.from c.period (held_by owners owner)
    owner_element = element_tabled c.elements c.from c.period owners owner owner_some owner_most

    -- what lies ahead for the owner
    owner_ahead : Ahead (element L (owner - 1)) x ((stride_at strides place).run + 1) ((stride_at strides place).hop + 1)
    owner_ahead = ahead_shifted
        (λ y. ap (λ (p : ℕ → Bool). p (x + y)) owner_element ∙ from_place c.from c.period (held_by owners owner) x (omega (arith, S.after)) y)
        (S.ahead place place_inside).ahead

    abbrev share : Share
    share = share_at shares (owner - 1)

    shared : ShareOf L c.from c.period a n (owner - 1) share
    shared = S.shared.each (owner - 1) owner_there

    size_is : share.size ≡ count_below (held_by owners owner) c.period
    size_is =
        shared.size
        ∙ ap (λ (p : ℕ → Bool). count_in p c.from c.period) owner_element
        ∙ period_count c.from c.period (held_by owners owner)

    -- ---- the piece there
    module _ {run : ℕ} (some : 1 ≤ run) {piece : Piece} (is : piece ≡ piece_at c owners strides x run) where
      pub piece_is : PieceOf L x run piece
      piece_is = rw is (record {
        some = omega arith;
        most = omega arith;
        number = owner_some;
        all = λ y l. owner_ahead.all y (omega arith);
      })

      abbrev passed : ℕ
      passed = rank_of ranks shares (piece_at c owners strides x run)

      -- THE RANK: whole periods, and what of the last one lies before the place
      rank_is : passed ≡ count_below (element L (owner - 1)) x
      rank_is =
          ap₂ (λ (u v : ℕ). (x - c.from) / c.period * u + v) size_is (S.ranked.each place place_inside)
          ∙ sym (rank_owns c.from c.period (held_by owners owner) x S.some (omega (arith, S.after)))
          ∙ ap (λ (p : ℕ → Bool). count_below p x) (sym owner_element)

      passed_after : share.before.0 ≤ passed
      passed_after = omega (arith, rank_is, shared.before, count_mono (element L (owner - 1)) a x (omega arith))

      pub source_is : source_of ranks shares piece ≡ tray_place L a n x
      source_is =
          let q = element L (owner - 1) in
          let here : q x ≡ true = ap q (let z : x ≡ x + 0 = omega arith in z) ∙ owner_ahead.all 0 (omega arith) in
          rw is (omega (
            arith,
            place_of L a n (owner - 1) x (sources_once x (omega arith) (omega arith)) here,
            count_window q a x (omega arith),
            rank_is,
            shared.start,
            shared.before,
          ))

      pub source_asks : SourceOk ranks shares piece
      source_asks = rw is (record {
        number = owner_some;
        ranked = omega (arith, place_inside, S.ranked.held);
        shared = omega (arith, S.shared.held, owner_there);
        after = passed_after;
        near = omega (
          arith,
          ap (source_of ranks shares) (sym is) ∙ source_is,
          place_within L a n sources_once x (omega arith) (omega arith),
          rank_is,
          count_le (element L (owner - 1)) x,
          S.near,
        );
      })

      -- what `beyond` says: the owner has nothing between the piece and there
      module _ (far : ℕ) (ends : (piece.len < run → far ≡ (stride_at strides piece.place).hop + 1) × (run ≤ piece.len → far ≡ run)) where
        beyond_ahead : (piece.len ≤ far) × ((y : ℕ) → piece.len ≤ y → y < far → element L (piece.owner - 1) (x + y) ≡ false)
        beyond_ahead =
            let ends' = rw is at ends in
            rw is (⊎_elim
            (λ d. (omega (arith, ends'.0 d, owner_ahead.within), λ y k l. owner_ahead.none y (omega arith) (omega (arith, ends'.0 d))))
            (λ d. (omega (arith, ends'.1 d), λ y k l. absurd (omega (arith, ends'.1 d))))
            (lt_or_le (min run ((stride_at strides place).run + 1)) run))

        pub beyond_least : piece.len ≤ far
        beyond_least = beyond_ahead.0

        pub step_beyond : (only : Option ℕ) → taken_from only piece.owner ≡ true → is_some only ≡ true → StepOver L only x piece.len far
        step_beyond None its some = absurd (true≢false (sym some))
        step_beyond (Some e) its some = record {
          least = beyond_least;
          none = λ y k l. rw (owner_of e piece.owner its) (beyond_ahead.1 y k l);
        }

-- ---- what of a piece is taken: all of it, or none
module _ {L : Elements} {x run : ℕ} {piece : Piece} (P : PieceOf L x run piece) where
  pub piece_taken : (only : Option ℕ) → taken_from only piece.owner ≡ true → (y : ℕ) → y < piece.len → takes L only (x + y) ≡ true
  piece_taken None its y l = refl
  piece_taken (Some e) its y l = rw (owner_of e piece.owner its) (P.all y l)

  pub piece_left : (only : Option ℕ) → (a n : ℕ) → Partition L a n → a ≤ x → x + run ≤ a + n → taken_from only piece.owner ≡ false
      → (y : ℕ) → y < piece.len → takes L only (x + y) ≡ false
  piece_left None a n once after fits other y l = absurd (true≢false other)
  piece_left (Some e) a n once after fits other y l =
      by_test (element L e (x + y))
      (λ t.
      let one = once (x + y) (omega arith) (omega (arith, P.most)) in
      let same : suc e ≡ piece.owner = omega (arith, first_only L (x + y) e one t, first_only L (x + y) (piece.owner - 1) one (P.all y l), P.number) in
      absurd (true≢false (sym (eq-eqb (suc e) piece.owner same) ∙ other)))
      (λ t. t)
