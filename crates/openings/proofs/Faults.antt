-- What refuses an index, an offset, an interval, a window or a buffer, and what is known where nothing does. Assumes nothing.
use mathlib.Core.Path.{◌≡◌, refl, sym, ◌∙◌}
use mathlib.Core.List.{[], ◌∷◌}
use mathlib.Core.Logic.{⊎_elim}
use Prim.Native.Nat.{ℕ, ◌-◌, ◌≤◌, ◌<◌}
use native.Mathlib.Omega.{arith}
use borrow.Author.Tests.{eq-eqb, ne_eqb, eqb-true, not-false, lt-ltb, le-ltb, le-leb, lt-leb, ltb-false, leb-false}
use Rattle.counting.proofs.Cases.{lt_or_le}
use Rattle.sheets.specs.Refusals.{first_fault}
use Rattle.sheets.proofs.Faults.{no_fault}
use Rattle.openings.specs.declared.Refusal.{Refusal}
use Rattle.openings.specs.declared.Refusal.TheVariants.{Element, Before, Far, Window, Buffer}
use Rattle.openings.specs.Said.{Said, done}
use Rattle.openings.specs.Refusals.{ELEMENT, BEFORE, FAR, WINDOW, BUFFER, unless_fault}
use Rattle.openings.specs.Offsets.{LIMIT, element_test, pair_tests, offset_tests, range_tests}
use Rattle.openings.specs.Buffers.{buffer_tests, tray_tests}
use Rattle.openings.specs.Openings.{Passes, Refuses}
use Rattle.openings.proofs.Orders.{fault_passed, never_both}
use Rattle.openings.proofs.Verdicts.{passes_none}

module _ (from x : ℕ) where
  pub offset_before : x < from → Refuses (unless_fault (offset_tests from x)) Before
  unfolding unless_fault first_fault
  offset_before h next = rw (lt-ltb _ _ h) refl

  pub offset_far : from ≤ x → LIMIT ≤ x → Refuses (unless_fault (offset_tests from x)) Far
  unfolding unless_fault first_fault
  offset_far h l next = rw (le-ltb _ _ h, le-leb _ _ l) refl

  pub offset_fine : from ≤ x → x < LIMIT → 0 ≡ first_fault (offset_tests from x)
  unfolding first_fault
  offset_fine h l = rw (le-ltb _ _ h, lt-leb _ _ l) refl

  pub offset_within : from ≤ x → x < LIMIT → Passes (unless_fault (offset_tests from x))
  offset_within h l next = fault_passed next _ 0 (offset_fine h l) refl

  -- and what is known where none does
  pub offset_known : first_fault (offset_tests from x) ≡ 0 → (from ≤ x) × (x < LIMIT)
  offset_known e =
      let before = no_fault BEFORE _ _ (omega arith) e in
      let far = no_fault FAR _ _ (omega arith) before.1 in
      (ltb-false x from before.0, omega (arith, leb-false LIMIT x far.0))

-- what an earlier displacement refuses, d refuses too, by the same refusal
pub offset_earlier : (from d x : ℕ) (f : Refusal) → Refuses (unless_fault (offset_tests from x)) f → from ≤ d → d ≤ LIMIT → Refuses (unless_fault (offset_tests d x)) f
offset_earlier from d x f R le near next =
    ⊎_elim
    (λ h. R next ∙ sym (offset_before from x h next) ∙ offset_before d x (omega arith) next)
    (λ h. ⊎_elim
    (λ l. absurd (never_both (R (done []) ∙ sym (offset_within from x h l (done [])))))
    (λ l. R next ∙ sym (offset_far from x h l next) ∙ offset_far d x (omega arith) l next)
    (lt_or_le x LIMIT))
    (lt_or_le x from)

module _ (most from a b : ℕ) where
  pub range_back : b < a → Refuses (unless_fault (range_tests most from a b)) Window
  unfolding unless_fault first_fault
  range_back h next = rw (lt-ltb _ _ h) refl

  module _ (forward : a ≤ b) where
    pub range_before : a < from → Refuses (unless_fault (range_tests most from a b)) Before
    unfolding unless_fault first_fault
    range_before h next = rw (le-ltb _ _ forward, lt-ltb _ _ h) refl

    pub range_far : from ≤ a → most < b → Refuses (unless_fault (range_tests most from a b)) Far
    unfolding unless_fault first_fault
    range_far h l next = rw (le-ltb _ _ forward, le-ltb _ _ h, lt-ltb _ _ l) refl

    pub range_fine : from ≤ a → b ≤ most → 0 ≡ first_fault (range_tests most from a b)
    unfolding first_fault
    range_fine h l = rw (le-ltb _ _ forward, le-ltb _ _ h, le-ltb _ _ l) refl

    pub range_within : from ≤ a → b ≤ most → Passes (unless_fault (range_tests most from a b))
    range_within h l next = fault_passed next _ 0 (range_fine h l) refl

  pub range_known : first_fault (range_tests most from a b) ≡ 0 → (a ≤ b) × (from ≤ a) × (b ≤ most)
  range_known e =
      let back = no_fault WINDOW _ _ (omega arith) e in
      let before = no_fault BEFORE _ _ (omega arith) back.1 in
      let far = no_fault FAR _ _ (omega arith) before.1 in
      (ltb-false b a back.0, ltb-false a from before.0, ltb-false most b far.0)

-- ---- the lengths of two buffers
module _ (one due1 two due2 : ℕ) where
  pub buffer_first : (one ≡ due1 → ⊥) → Refuses (unless_fault (buffer_tests one due1 two due2)) Buffer
  unfolding unless_fault first_fault
  buffer_first d next = rw (ne_eqb _ _ d) refl

  pub buffer_second : one ≡ due1 → (two ≡ due2 → ⊥) → Refuses (unless_fault (buffer_tests one due1 two due2)) Buffer
  unfolding unless_fault first_fault
  buffer_second e d next = rw (eq-eqb _ _ e, ne_eqb _ _ d) refl

  pub buffer_fine : one ≡ due1 → two ≡ due2 → 0 ≡ first_fault (buffer_tests one due1 two due2)
  unfolding first_fault
  buffer_fine e f = rw (eq-eqb _ _ e, eq-eqb _ _ f) refl

  pub buffer_long : one ≡ due1 → two ≡ due2 → Passes (unless_fault (buffer_tests one due1 two due2))
  buffer_long e f next = fault_passed next _ 0 (buffer_fine e f) refl

  pub buffer_known : first_fault (buffer_tests one due1 two due2) ≡ 0 → (one ≡ due1) × (two ≡ due2)
  buffer_known e =
      let first = no_fault BUFFER _ _ (omega arith) e in
      let second = no_fault BUFFER _ _ (omega arith) first.1 in
      (eqb-true _ _ (not-false _ first.0), eqb-true _ _ (not-false _ second.0))

-- ---- an index, and the indexes of a pair
module _ (n e : ℕ) where
  pub element_none : n ≤ e → Refuses (unless_fault (element_test n e ∷ [])) Element
  unfolding unless_fault first_fault
  element_none h next = rw (le-leb _ _ h) refl

  pub element_there : e < n → Passes (unless_fault (element_test n e ∷ []))
  unfolding unless_fault first_fault
  element_there h next = rw (lt-leb _ _ h) refl

  pub element_known : first_fault (element_test n e ∷ []) ≡ 0 → e < n
  element_known z = omega (arith, leb-false n e (no_fault ELEMENT _ _ (omega arith) z).0)

module _ (m i n j : ℕ) where
  pub pair_first : m ≤ i → ELEMENT ≡ first_fault (pair_tests m i n j)
  unfolding first_fault
  pair_first h = rw (le-leb _ _ h) refl

  pub pair_second : i < m → n ≤ j → ELEMENT ≡ first_fault (pair_tests m i n j)
  unfolding first_fault
  pair_second h l = rw (lt-leb _ _ h, le-leb _ _ l) refl

  pub pair_fine : i < m → j < n → 0 ≡ first_fault (pair_tests m i n j)
  unfolding first_fault
  pair_fine h l = rw (lt-leb _ _ h, lt-leb _ _ l) refl

  pub pair_known : first_fault (pair_tests m i n j) ≡ 0 → (i < m) × (j < n)
  pair_known e =
      let first = no_fault ELEMENT _ _ (omega arith) e in
      (omega (arith, leb-false m i first.0), element_known n j first.1)

  -- the first index passes, so the second decides
  pub pair_next : Passes (unless_fault (element_test m i ∷ [])) → (next : Said) → unless_fault (element_test n j ∷ []) next ≡ unless_fault (pair_tests m i n j) next
  unfolding unless_fault first_fault
  pair_next P next = rw (lt-leb _ _ (element_known m i (passes_none (element_test m i ∷ []) P))) refl

-- ---- a window, and then two trays of it
module _ (from a b one two : ℕ) where
  -- the window passes, so the trays decide
  pub trays_next : (a ≤ b) × (from ≤ a) × (b ≤ LIMIT) → (next : Said) → unless_fault (buffer_tests one (b - a) two (b - a)) next ≡ unless_fault (tray_tests from a b one two) next
  unfolding unless_fault first_fault
  trays_next K next = rw (le-ltb _ _ K.0, le-ltb _ _ K.1, le-ltb _ _ K.2) refl

  pub trays_known : first_fault (tray_tests from a b one two) ≡ 0 → (a ≤ b) × (from ≤ a) × (b ≤ LIMIT) × (one ≡ b - a) × (two ≡ b - a)
  trays_known e =
      let back = no_fault WINDOW _ _ (omega arith) e in
      let before = no_fault BEFORE _ _ (omega arith) back.1 in
      let far = no_fault FAR _ _ (omega arith) before.1 in
      let B = buffer_known one (b - a) two (b - a) far.1 in
      (ltb-false b a back.0, ltb-false a from before.0, ltb-false LIMIT b far.0, B.0, B.1)

  pub trays_fine : a ≤ b → from ≤ a → b ≤ LIMIT → one ≡ b - a → two ≡ b - a → 0 ≡ first_fault (tray_tests from a b one two)
  unfolding first_fault
  trays_fine forward after near e f = rw (le-ltb _ _ forward, le-ltb _ _ after, le-ltb _ _ near, eq-eqb _ _ e, eq-eqb _ _ f) refl
