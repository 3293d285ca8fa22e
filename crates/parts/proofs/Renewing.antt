-- The loop of `fill_part`: the part is as it shall be up to where the walk stands, and as it was from there on. Assumes nothing.
use mathlib.Core.Path.{◌≡◌, refl, sym, ap, ◌∙◌}
use mathlib.Core.Bool.{Bool, true, false, cond}
use mathlib.Core.List.{List, ◌++◌}
use mathlib.Core.Logic.{⊎_elim}
use Rattle.std.specs.Prelude.{Option}
use Rattle.std.specs.Option.{is_some}
use Prim.Native.Nat.{ℕ, ◌+◌, ◌-◌, ◌≤◌, ◌<◌, min}
use native.Mathlib.Omega.{arith}
use lib.ListN.{length, get_or, take, drop, length-drop}
use lib.Seq.{take-add, drop-drop, paste, drop-paste}
use Rattle.counting.specs.Count.{count_in}
use Rattle.counting.specs.Gather.{tabulated}
use Rattle.counting.specs.Elements.{Elements, element, Partition}
use Rattle.counting.specs.Trays.{tray_place, in_tray}
use Rattle.counting.proofs.Cases.{lt_or_le}
use Rattle.counting.proofs.Gathers.{tabulated_ext, tabulated_part}
use Rattle.counting.proofs.TrayParts.{run_within, tray_run}
use Rattle.maps.specs.declared.Selection.{Selection}
use Rattle.parts.specs.declared.pieces.Cycle.{Cycle}
use Rattle.parts.specs.declared.pieces.Piece.{Piece}
use Rattle.parts.specs.declared.shares.Share.{Share}
use Rattle.moves.specs.declared.ahead.Stride.{Stride}
use Rattle.moves.specs.declared.walks.Walk.{Walk}
use Rattle.moves.specs.Strides.{stride_at, Strides, furthers}
use Rattle.moves.specs.Walks.{Stands, Begun}
use Rattle.parts.specs.Pieces.{elements_by, Written, piece_at, source_of, SourceOk, takes, taken_from, renewed}
use Rattle.moves.proofs.Passing.{Passes, pass_front, pass_others}
use Rattle.moves.proofs.Striding.{step_there, step_left, stepped, stepped_twice, packed_place, step_passes, further_passes}
use Rattle.moves.proofs.Packing.{Packing, packing_start, packing_end, packing_room, packing_on, packing_copied}
use Rattle.parts.proofs.Piecing.{PieceOf, StepOver, sources_once, piece_is, piece_taken, piece_left}
use Rattle.parts.proofs.Piecing.{source_asks, source_is, beyond_least, step_beyond}

-- the byte of x in the renewed part
abbrev pub new_byte : (q : ℕ → Bool) → (a : ℕ) → (taken : ℕ → Bool) → (f : ℕ → ℕ) → (old : List ℕ) → ℕ → ℕ
new_byte q a taken f old x = cond (taken x) (f x) (get_or old (count_in q a (x - a)) 0)

pub record Renewing (s : Selection) (q : ℕ → Bool) (a n : ℕ) (taken : ℕ → Bool) (f : ℕ → ℕ) (old part : List ℕ) (w : Walk) : Type 0 where
  pub packing : Packing s q a n (new_byte q a taken f old) old part w
  pub kept : drop w.packed part ≡ drop w.packed old

pub renewing_start : {s : Selection} {q : ℕ → Bool} {a : ℕ} {w : Walk} → Begun s q a w → (n : ℕ) (taken : ℕ → Bool) (f : ℕ → ℕ) (part : List ℕ)
    → length part ≡ count_in q a n → Renewing s q a n taken f part part w
renewing_start B n taken f part room = record { packing = packing_start B n _ part room; kept = refl }

module _ {s : Selection} {q : ℕ → Bool} {a n : ℕ} {taken : ℕ → Bool} {f : ℕ → ℕ} {old part : List ℕ} {w : Walk}
    (R : Renewing s q a n taken f old part w) where
  pub renewing_end : n ≤ w.at → part ≡ renewed q a n taken f old
  unfolding renewed
  renewing_end past = packing_end R.packing past

  -- ---- one step more, over m numbers
  module _ {m far : ℕ} (S : Passes q (a + w.at) (n - w.at) m far) (w' : Walk) (e : w' ≡ stepped s w far m) where
    -- what is not reached yet
    still : drop (w.packed + m) part ≡ drop (w.packed + m) old
    still = sym (drop-drop m w.packed part) ∙ ap (drop m) R.kept ∙ drop-drop m w.packed old

    -- that are taken: their bytes are copied from a list that has them from k on
    renewing_copied : ((y : ℕ) → y < m → taken (a + w.at + y) ≡ true) → (l : List ℕ) (k : ℕ) → k + m ≤ length l
        → tabulated (a + w.at) m f ≡ take m (drop k l) → (part' : List ℕ) → part' ≡ paste part w.packed (drop k l) m
        → Renewing s q a n taken f old part' w'
    renewing_copied all l k held bytes part' is =
        let x = a + w.at in
        let long : m ≤ length (drop k l) = omega (arith, length-drop k l) in
        record {
          packing = packing_copied R.packing S l k held
              (tabulated_ext x m (new_byte q a taken f old) f
              (λ z u v. rw (ap taken (let d : z ≡ x + (z - x) = omega arith in d) ∙ all (z - x) (omega arith)) refl)
              ∙ bytes)
              part' is w' e;
          kept = rw e (ap (drop (w.packed + m)) is
              ∙ drop-paste part w.packed (drop k l) m (omega (arith, packing_room R.packing S)) long
              ∙ still);
        }

    -- that are not: the part stays
    renewing_left : ((y : ℕ) → y < m → taken (a + w.at + y) ≡ false) → w.at ≤ n → Renewing s q a n taken f old part w'
    renewing_left none inside =
        let x = a + w.at in
        let room = packing_room R.packing S in
        let byte : (y : ℕ) → y < m → new_byte q a taken f old (x + y) ≡ get_or old (w.packed + y) 0 =
        λ y l. rw (none y l) (ap (λ (i : ℕ). get_or old i 0)
        (ap (count_in q a) (let d : x + y - a ≡ w.at + y = omega arith in d) ∙ packed_place R.packing.stands S inside y l)) in
        let bytes : tabulated x m (new_byte q a taken f old) ≡ take m (drop w.packed part) =
        tabulated_part x m (new_byte q a taken f old) old w.packed (omega (arith, room, R.packing.same)) byte ∙ ap (take m) (sym R.kept) in
        record {
          packing = packing_on R.packing S part refl
              (take-add w.packed m part ∙ ap (λ (v : List ℕ). take w.packed part ++ v) (sym bytes))
              w' e;
          kept = rw e still;
        }

-- .. over m numbers, of which the first k are taken, and the others are not
module _ {s : Selection} {q : ℕ → Bool} {a n : ℕ} {taken : ℕ → Bool} {f : ℕ → ℕ} {old part : List ℕ} {w : Walk}
    (R : Renewing s q a n taken f old part w) {m far : ℕ} (S : Passes q (a + w.at) (n - w.at) m far) (w' : Walk) (e : w' ≡ stepped s w far m) where
  renewing_front : w.at + m ≤ n → (k : ℕ) → k ≤ m
      → ((y : ℕ) → y < k → taken (a + w.at + y) ≡ true) → ((y : ℕ) → k ≤ y → y < m → taken (a + w.at + y) ≡ false)
      → (l : List ℕ) (i : ℕ) → i + k ≤ length l → tabulated (a + w.at) k f ≡ take k (drop i l)
      → (part' : List ℕ) → part' ≡ paste part w.packed (drop i l) k → Renewing s q a n taken f old part' w'
  renewing_front inside k most all none l i held bytes part' is = ⊎_elim two one (lt_or_le k m)
    where
      two : k < m → Renewing s q a n taken f old part' w'
      two less = renewing_left
          (renewing_copied R (pass_front S k less) (stepped s w k k) refl all l i held bytes part' is)
          (rw (step_there a w k, step_left n w k) at (pass_others S k less))
          w' (e ∙ sym (stepped_twice s w k far m (omega (arith, S.ahead)) most))
          (λ y h. ap taken (let d : a + (w.at + k) + y ≡ a + w.at + (k + y) = omega arith in d) ∙ none (k + y) (omega arith) (omega arith))
          (omega arith)

      one : m ≤ k → Renewing s q a n taken f old part' w'
      one past =
          let same : m ≡ k = omega arith in
          renewing_copied R (rw same at S) w' (rw same at e) all l i held bytes part' is

-- ---- a piece of a run, which one element of L has
module _ {s : Selection} {q : ℕ → Bool} {a n : ℕ} {w : Walk} {L : Elements} {strides : List Stride} (T : Strides s q strides) (W : Stands s q a n w)
    (inside : w.at < n) (run : ℕ) (clipped : run ≡ min ((stride_at strides w.place).run + 1) (n - w.at))
    (piece : Piece) (P : PieceOf L (a + w.at) run piece) where
  has : (z : ℕ) → a + w.at ≤ z → z < a + w.at + piece.len → element L (piece.owner - 1) z ≡ true
  has z u v = ap (element L (piece.owner - 1)) (let d : z ≡ a + w.at + (z - (a + w.at)) = omega arith in d) ∙ P.all (z - (a + w.at)) (omega arith)

  fits : a + w.at + piece.len ≤ a + n
  fits = omega (arith, P.most)

  -- its bytes stand in the tray one after the other
  module _ (once : Partition L a n) (tray : List ℕ) (long : length tray ≡ n) (source : ℕ) (there : source ≡ tray_place L a n (a + w.at)) where
    piece_held : source + piece.len ≤ length tray
    piece_held = omega (arith, run_within L a n once (piece.owner - 1) (a + w.at) piece.len (omega arith) fits has P.some)

    piece_bytes : tabulated (a + w.at) piece.len (in_tray L a n tray) ≡ take piece.len (drop source tray)
    piece_bytes =
        tray_run L a n once (piece.owner - 1) (a + w.at) piece.len (omega arith) fits has tray long
        ∙ ap (λ (i : ℕ). take piece.len (drop i tray)) (sym there)

-- ---- where the loop has found a piece, by what is written down of the first layout
pub record AtPiece (s : Selection) (q : ℕ → Bool) (strides : List Stride) (a n : ℕ) (c : Cycle) (owners : List ℕ)
    (steps : List Stride) (ranks : List ℕ) (shares : List Share) (only : Option ℕ) (tray old part : List ℕ) (w : Walk) (run : ℕ) (piece : Piece) : Type 0 where
  pub ahead : Strides s q strides
  pub sources : Written c a n owners steps ranks shares
  pub long : length tray ≡ n
  pub renewing : Renewing s q a n (takes (elements_by c owners) only) (in_tray (elements_by c owners) a n tray) old part w
  pub inside : w.at < n
  pub clipped : run ≡ min ((stride_at strides w.place).run + 1) (n - w.at)
  pub is : piece ≡ piece_at c owners steps (a + w.at) run

module _ {s : Selection} {q : ℕ → Bool} {strides : List Stride} {a n : ℕ} {c : Cycle} {owners : List ℕ} {steps : List Stride} {ranks : List ℕ}
    {shares : List Share} {only : Option ℕ} {tray old part : List ℕ} {w : Walk} {run : ℕ} {piece : Piece}
    (A : AtPiece s q strides a n c owners steps ranks shares only tray old part w run piece) where
  abbrev L : Elements
  L = elements_by c owners

  abbrev x : ℕ
  x = a + w.at

  W : Stands s q a n w
  W = A.renewing.packing.stands

  some : 1 ≤ run
  some = omega (arith, A.clipped, A.inside)

  P : PieceOf L x run piece
  P = piece_is A.sources A.inside some A.is

  -- what `takes`, `source_of` and `copy_run` ask
  pub owner_asked : 1 ≤ piece.owner
  owner_asked = P.number

  pub source_asked : SourceOk ranks shares piece
  source_asked = source_asks A.sources A.inside some A.is

  module _ (source : ℕ) (from : source ≡ source_of ranks shares piece) where
    there : source ≡ tray_place L a n x
    there = from ∙ source_is A.sources A.inside some A.is

    pub copy_asked : (source + piece.len ≤ length tray) × (w.packed + piece.len ≤ length part)
    copy_asked = (
      piece_held A.ahead W A.inside run A.clipped piece P (sources_once A.sources) tray A.long source there,
      omega (arith, packing_room A.renewing.packing (step_passes A.ahead W A.inside run A.clipped), P.most),
    )

  -- what `beyond` gives
  module _ (far : ℕ) (ends : (piece.len < run → far ≡ (stride_at steps piece.place).hop + 1) × (run ≤ piece.len → far ≡ run)) where
    pub far_least : piece.len ≤ far
    far_least = beyond_least A.sources A.inside some A.is far ends

    pub far_over : taken_from only piece.owner ≡ true → is_some only ≡ true → StepOver L only x piece.len far
    far_over = step_beyond A.sources A.inside some A.is far ends only

  -- ---- and how the walk goes on
  module _ (step : ℕ) {w' : Walk} (e : w' ≡ furthers s strides w run step) where
    abbrev passes : (to : ℕ) × Passes q x (n - w.at) (min step run) to × (w' ≡ stepped s w to (min step run))
    passes = further_passes A.ahead W A.inside run A.clipped step w' e

    pub piece_forward : piece.len ≤ step → w.at < w'.at
    piece_forward least = omega (arith, passes.1.ahead, ap (λ (v : Walk). v.at) passes.2, P.some, P.most)

    -- what it steps over after the piece is not taken
    module _ (over : StepOver L only x piece.len step) where
      -- the piece is copied where it is taken
      pub piece_copied : taken_from only piece.owner ≡ true → (source : ℕ) → source ≡ source_of ranks shares piece
          → (part' : List ℕ) → part' ≡ paste part w.packed (drop source tray) piece.len
          → Renewing s q a n (takes L only) (in_tray L a n tray) old part' w'
      piece_copied chosen source from = renewing_front A.renewing passes.1 w' passes.2 (omega (arith, A.clipped, A.inside))
          piece.len (omega (arith, P.most, over.least))
          (piece_taken P only chosen) (λ y k l. over.none y k (omega arith)) tray source (copy_asked source from).0
          (piece_bytes A.ahead W A.inside run A.clipped piece P (sources_once A.sources) tray A.long source (there source from))

      -- .. and else the part stays
      pub piece_passed : taken_from only piece.owner ≡ false → (part' : List ℕ) → part' ≡ part
          → Renewing s q a n (takes L only) (in_tray L a n tray) old part' w'
      piece_passed other part' same =
          rw same (renewing_left A.renewing passes.1 w' passes.2
          (λ y l. ⊎_elim
          (λ h. piece_left P only a n (sources_once A.sources) (omega arith) (omega (arith, A.clipped, A.inside)) other y h)
          (λ h. over.none y h (omega arith))
          (lt_or_le y piece.len))
          (omega (arith, A.inside)))
