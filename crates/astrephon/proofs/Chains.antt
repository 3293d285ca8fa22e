-- CHAINS OF MOVES COMPOSE, and a move equals its pair moves in any order: of calls that met their contracts. The one move that they are compared with has a
-- buffer of its own, which held anything. Assumes nothing.
use mathlib.Core.Path.{◌≡◌, refl, sym, ap, ◌∙◌}
use mathlib.Core.Bool.{Bool, true, false, ◌&&◌}
use mathlib.Core.List.{List, [], ◌∷◌, ◌++◌, Memᴰ}
use mathlib.Core.Logic.{⊎_elim}
use Prim.Native.Nat.{ℕ, ◌-◌, ◌<◌}
use native.Mathlib.Omega.{arith}
use lib.ListN.{length}
use Rattle.counting.specs.Elements.{Elements, element}
use Rattle.counting.specs.Trays.{tray, in_tray, moved, pair_moved, pair_moves}
use Rattle.counting.proofs.Cases.{lt_or_le}
use Rattle.counting.proofs.Trays.{tray_ext, tray_at, tray_of}
use Rattle.counting.proofs.Moves.{length_moved, moved_moved, length_pair, pairs_move}
use Rattle.sheets.specs.Sheet.{read_sheet}
use Rattle.openings.proofs.Faults.{pair_first, pair_second}
use Rattle.astrephon.specs.Moves.{elements_read, pair_move_call}
use Rattle.astrephon.specs.Sequences.{Takes, Forward, Stop, AllTake}
use Rattle.astrephon.proofs.Sequences.{Moved, Chain, Pairs}
use Rattle.astrephon.proofs.Accepting.{move_does, pair_does, pair_absent}
use Rattle.astrephon.proofs.Trays.{elements_length, past_none, shared_out}

none_right : (s : Bool) {t : Bool} → t ≡ false → (s && t) ≡ false
none_right true e = e
none_right false e = refl

module _ {a b : ℕ} (W : Forward a b) where
  -- what a move leaves
  move_leaves : {xs ys : List ℕ} (X : Takes xs a) (Y : Takes ys a) (t held later : List ℕ) → length t ≡ b - a → length held ≡ b - a → Moved xs ys a b t held later
      → later ≡ moved (elements_read (read_sheet xs)) (elements_read (read_sheet ys)) a (b - a) t
  move_leaves X Y t held later one two made = made.2.1 ∙ sym (move_does W X Y t held one two).1

  chain_leaves : {xs zs : List ℕ} (X : Takes xs a) (stops : List Stop) → AllTake stops a b → (Z : Takes zs a) (held : List ℕ) → length held ≡ b - a
      → (t last : List ℕ) → length t ≡ b - a → Chain xs (stops ++ ((zs, held) ∷ [])) a b t last
      → last ≡ moved (elements_read (read_sheet xs)) (elements_read (read_sheet zs)) a (b - a) t
  unfolding Chain AllTake
  chain_leaves X [] all Z held two t last one made = made.2 ∙ move_leaves X Z t held made.0 one two made.1
  chain_leaves {xs} {zs} X (s ∷ rest) all Z held two t last one made =
      let S = all.0 in
      let first = move_leaves X S t s.1 made.0 one all.1 made.1 in
      let long : length made.0 ≡ b - a = ap length first ∙ length_moved (elements_read (read_sheet xs)) (elements_read (read_sheet s.0)) a (b - a) (shared_out S (b - a)) t in
      chain_leaves S rest all.2 Z held two made.0 last long made.2
      ∙ ap (moved (elements_read (read_sheet s.0)) (elements_read (read_sheet zs)) a (b - a)) first
      ∙ moved_moved (elements_read (read_sheet xs)) (elements_read (read_sheet s.0)) (elements_read (read_sheet zs)) a (b - a) (shared_out S (b - a)) t

  -- A CHAIN of two or more sheets moves as the first to the last does at once
  pub chain_moves : {xs zs : List ℕ} (X : Takes xs a) (stops : List Stop) → AllTake stops a b → (Z : Takes zs a) (held : List ℕ) → length held ≡ b - a
      → (t last : List ℕ) → length t ≡ b - a → Chain xs (stops ++ ((zs, held) ∷ [])) a b t last
      → (own once : List ℕ) → length own ≡ b - a → Moved xs zs a b t own once → last ≡ once
  chain_moves X stops all Z held two t last one made own once three at_once =
      chain_leaves X stops all Z held two t last one made ∙ sym (move_leaves X Z t own once one three at_once)

  -- A CHAIN BACK to its first sheet restores every byte
  pub chain_restores : {xs : List ℕ} (X : Takes xs a) (stops : List Stop) → AllTake stops a b → (held : List ℕ) → length held ≡ b - a
      → (t last : List ℕ) → length t ≡ b - a → Chain xs (stops ++ ((xs, held) ∷ [])) a b t last → last ≡ t
  unfolding moved
  chain_restores {xs} X stops all held two t last one made =
      chain_leaves X stops all X held two t last one made ∙ tray_of (elements_read (read_sheet xs)) a (b - a) (shared_out X (b - a)) t one

  -- ---- pairs
  module _ {xs ys : List ℕ} (X : Takes xs a) (Y : Takes ys a) (t : List ℕ) (one : length t ≡ b - a) where
    abbrev L : Elements
    L = elements_read (read_sheet xs)

    abbrev M : Elements
    M = elements_read (read_sheet ys)

    -- a move takes the tray of any bytes to the other tray of the same bytes
    pub move_trays : (f : ℕ → ℕ) (held later : List ℕ) → t ≡ tray L a (b - a) f → length held ≡ b - a → Moved xs ys a b t held later → later ≡ tray M a (b - a) f
    unfolding moved
    move_trays f held later is two made =
        move_leaves X Y t held later one two made
        ∙ tray_ext M a (b - a) _ f (λ x h k _. ap (λ (u : List ℕ). in_tray L a (b - a) u x) is ∙ tray_at L a (b - a) (shared_out X (b - a)) f x h k)

    -- what a pair move leaves. A pair with an index that is none shares nothing, and its refused call writes nothing
    shares_none : (i j : ℕ) (held : List ℕ) → length held ≡ b - a → ((x : ℕ) → (element L i x && element M j x) ≡ false) → held ≡ pair_moved L M a (b - a) t i j held
    unfolding pair_moved
    shares_none i j held two none =
        sym (tray_of M a (b - a) (shared_out Y (b - a)) held two) ∙ tray_ext M a (b - a) _ _ (λ x _ _ _. rw (none x) refl)

    pair_says : (i j : ℕ) (held : List ℕ) → length held ≡ b - a → (pair_move_call xs ys i j a b t held).later ≡ pair_moved L M a (b - a) t i j held
    pair_says i j held two = ⊎_elim
        (λ first. ⊎_elim
        (λ second. sym (pair_does W X Y t held one two i j first second).1)
        (λ past. pair_absent W X Y t held i j (pair_second _ _ _ _ first past) ∙ shares_none i j held two (λ x. none_right (element L i x) (past_none ys j past x)))
        (lt_or_le j (read_sheet ys).layout.elements))
        (λ past. pair_absent W X Y t held i j (pair_first _ _ (read_sheet ys).layout.elements j past) ∙ shares_none i j held two (λ x. rw (past_none xs i past x) refl))
        (lt_or_le i (read_sheet xs).layout.elements)

    pairs_leave : (pairs : List (ℕ × ℕ)) (held last : List ℕ) → length held ≡ b - a → Pairs xs ys pairs a b t held last → last ≡ pair_moves L M a (b - a) t pairs held
    unfolding Pairs pair_moves
    pairs_leave [] held last two made = made
    pairs_leave (q ∷ rest) held last two made =
        let now = made.1.2.1 ∙ pair_says q.0 q.1 held two in
        pairs_leave rest made.0 last (ap length now ∙ length_pair L M a (b - a) (shared_out Y (b - a)) t q.0 q.1 held) made.2
        ∙ ap (pair_moves L M a (b - a) t rest) now

    -- A MOVE EQUALS ITS PAIR MOVES: in any order, each pair of elements at least once, into a tray that held anything
    pub pairs_move_all : (pairs : List (ℕ × ℕ)) → ((i j : ℕ) → i < (read_sheet xs).layout.elements → j < (read_sheet ys).layout.elements → Memᴰ (i, j) pairs)
        → (held last : List ℕ) → length held ≡ b - a → Pairs xs ys pairs a b t held last
        → (own once : List ℕ) → length own ≡ b - a → Moved xs ys a b t own once → last ≡ once
    pairs_move_all pairs each held last two made own once three at_once =
        pairs_leave pairs held last two made
        ∙ pairs_move L M a (b - a) (shared_out Y (b - a)) t (shared_out X (b - a)) pairs
        (λ i j h k. each i j (omega (arith, elements_length (read_sheet xs))) (omega (arith, elements_length (read_sheet ys)))) held two
        ∙ sym (move_leaves X Y t own once one three at_once)
