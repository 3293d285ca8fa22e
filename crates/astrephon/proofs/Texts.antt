-- `list_sheet` case by case, and that a long buffer is enough. Assumes nothing.
use mathlib.Core.Path.{◌≡◌, refl, sym, ap, ◌∙◌}
use mathlib.Core.List.{List, [], ◌∷◌, ◌++◌}
use Prim.Native.Nat.{ℕ, ◌≤◌, ◌<◌}
use native.Mathlib.Nat.{zero-add}
use native.Mathlib.Omega.{arith}
use borrow.Author.Tests.{lt-ltb, le-ltb}
use lib.Dec.{ltb}
use lib.ListN.{length, take, drop, length-append}
use lib.Seq.{paste, length-take-le}
use Rattle.sheets.specs.Refusals.{◌when◌}
use Rattle.openings.specs.declared.Refusal.TheVariants.{Buffer}
use Rattle.openings.specs.Said.{done}
use Rattle.openings.specs.Refusals.{BUFFER, refusal_says}
use Rattle.openings.proofs.Orders.{row_there, row_absent, fault_refused, fault_passed, fault_through, same_value, left_held, left_written}
use Rattle.astrephon.specs.Texts.{text_outcome}

-- ---- a text of n bytes stands at the front of `whole`
module _ {text : List ℕ} (whole : List ℕ) {n : ℕ} (text_is : take n whole ≡ text) (room : n ≤ length whole) where
  text_long : length text ≡ n
  text_long = ap length (sym text_is) ∙ length-take-le n whole room

  -- the buffer is shorter, and nothing is written
  module _ (held : List ℕ) (over : length held < n) where
    pub buffer_says : refusal_says Buffer ≡ (text_outcome text held).says
    unfolding text_outcome
    buffer_says = fault_refused _ _ BUFFER (row_there BUFFER _ (lt-ltb (length held) (length text) (omega (arith, text_long)))) (λ z. omega arith)

    pub buffer_leaves : held ≡ (text_outcome text held).later
    unfolding text_outcome
    buffer_leaves = sym (left_held held _ buffer_says)

  -- or the text is at its front
  module _ (held : List ℕ) (fits : n ≤ length held) where
    pub text_says : done (n ∷ []) ≡ (text_outcome text held).says
    unfolding text_outcome
    text_says = ap (λ (m : ℕ). done (m ∷ [])) (sym text_long) ∙ fault_passed _ _ 0 (row_absent BUFFER _ (le-ltb (length held) (length text) (omega (arith, text_long)))) refl

    pub text_leaves : {later : List ℕ} → later ≡ paste held 0 whole n → later ≡ (text_outcome text held).later
    unfolding text_outcome
    text_leaves is =
        let front : paste held 0 whole n ≡ text ++ drop (length text) held = rw (zero-add, text_is, text_long) refl in
        is ∙ front ∙ sym (left_written held _ text_says)

-- ---- what was written is no longer than what it was written to
pub written_fits : (text held : List ℕ) {later : List ℕ} {n : ℕ} → done (n ∷ []) ≡ (text_outcome text held).says → later ≡ (text_outcome text held).later → n ≤ length later
unfolding text_outcome
written_fits text held is left =
    let long = same_value (fault_through ((BUFFER when ltb (length held) (length text)) ∷ []) (sym is)).1 in
    let whole = left ∙ left_written held (text ++ drop (length text) held) is in
    omega (arith, long, ap length whole, length-append text (drop (length text) held))
