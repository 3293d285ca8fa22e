-- TWO ANSWERS THAT MEET A CALL'S CONTRACT are equal, and so are the buffers that are left: one theorem a call, stated of the contracts themselves. Both calls
-- were given the same contents, wherever these lay. Assumes nothing.
use mathlib.Core.Path.{◌≡◌, sym, ◌∙◌}
use mathlib.Core.List.{List}
use Prim.Native.Nat.{ℕ}
use Rattle.openings.specs.Said.{Said}
use Rattle.families.specs.declared.FileOffset.{FileOffset}
use Rattle.families.specs.declared.SubfileOffset.{SubfileOffset}
use Rattle.astrephon.specs.Says.{says, number_value, no_values}
use Rattle.astrephon.specs.declared.Facts.{Facts}
use Rattle.astrephon.specs.declared.Interval.{Interval}
use Rattle.astrephon.proofs.Contracts.{Answer, Carried, Made, Check, Exact, Next, Inverse, Span, PackedLen, SharedRuns, Gather, Scatter, MoveTray, MovePair, ListSheet}
use Rattle.astrephon.proofs.Saying.{checked_same, mapped_same, located_same, spanned_same, counted_same, carried_same}

module _ (m m' : Made 1) (xs : List ℕ) where
  pub check_unique : (r s : Answer Facts) → Check m xs r → Check m' xs s → r ≡ s
  check_unique r s p q = checked_same r s (p ∙ sym q)

  module _ (e : ℕ) where
    pub exact_unique : (x : ℕ) (r s : Answer SubfileOffset) → Exact m xs e x r → Exact m' xs e x s → r ≡ s
    exact_unique x r s p q = mapped_same r s (p ∙ sym q)

    pub next_unique : (x : ℕ) (r s : Answer SubfileOffset) → Next m xs e x r → Next m' xs e x s → r ≡ s
    next_unique x r s p q = mapped_same r s (p ∙ sym q)

    pub inverse_unique : (y : ℕ) (r s : Answer FileOffset) → Inverse m xs e y r → Inverse m' xs e y s → r ≡ s
    inverse_unique y r s p q = located_same r s (p ∙ sym q)

    pub span_unique : (a z : ℕ) (r s : Answer Interval) → Span m xs e a z r → Span m' xs e a z s → r ≡ s
    span_unique a z r s p q = spanned_same r s (p ∙ sym q)

    pub packed_len_unique : (a b : ℕ) (r s : Answer ℕ) → PackedLen m xs e a b r → PackedLen m' xs e a b s → r ≡ s
    packed_len_unique a b r s p q = counted_same r s (p ∙ sym q)

-- ---- of a call that writes, also what is written
module _ {A : Type 0} (values : A → List ℕ) (same : (r s : Answer A) → says values r ≡ says values s → r ≡ s) where
  both_same : {said : Said} {written : List ℕ} (r s : Answer A) (later later' : List ℕ) → (says values r ≡ said) × (later ≡ written) → (says values s ≡ said) × (later' ≡ written) → (r ≡ s) × (later ≡ later')
  both_same r s later later' p q = (same r s (p.0 ∙ sym q.0), p.1 ∙ sym q.1)

module _ (m m' : Made 3) (later later' : List ℕ) where
  pub shared_runs_unique : (xs ys : List ℕ) (i j a b : ℕ) (held : List ℕ) (r s : Answer ℕ) → SharedRuns m xs ys i j a b held r later → SharedRuns m' xs ys i j a b held s later' → (r ≡ s) × (later ≡ later')
  shared_runs_unique xs ys i j a b held r s = both_same number_value counted_same r s later later'

  module _ (xs : List ℕ) (e a b : ℕ) (from held : List ℕ) (r s : Carried) where
    pub gather_unique : Gather m xs e a b from held r later → Gather m' xs e a b from held s later' → (r ≡ s) × (later ≡ later')
    gather_unique = both_same no_values carried_same r s later later'

    pub scatter_unique : Scatter m xs e a b from held r later → Scatter m' xs e a b from held s later' → (r ≡ s) × (later ≡ later')
    scatter_unique = both_same no_values carried_same r s later later'

module _ (m m' : Made 4) (xs ys : List ℕ) (t held : List ℕ) (r s : Carried) (later later' : List ℕ) where
  pub move_tray_unique : (a b : ℕ) → MoveTray m xs ys a b t held r later → MoveTray m' xs ys a b t held s later' → (r ≡ s) × (later ≡ later')
  move_tray_unique a b = both_same no_values carried_same r s later later'

  pub move_pair_unique : (i j a b : ℕ) → MovePair m xs ys i j a b t held r later → MovePair m' xs ys i j a b t held s later' → (r ≡ s) × (later ≡ later')
  move_pair_unique i j a b = both_same no_values carried_same r s later later'

pub list_sheet_unique : (m m' : Made 2) (xs held : List ℕ) (r s : Answer ℕ) (later later' : List ℕ) → ListSheet m xs held r later → ListSheet m' xs held s later' → (r ≡ s) × (later ≡ later')
list_sheet_unique m m' xs held r s later later' = both_same number_value counted_same r s later later'
