-- Numbers as bytes, there and back: what `two` and `four` write is read again, and bytes are what they write of what is read. Assumes nothing.
use mathlib.Core.Path.{◌≡◌, refl, sym, ap, ◌∙◌}
use mathlib.Core.List.{List, ◌++◌, append_assoc}
use Prim.Native.Nat.{ℕ, suc, ◌+◌, ◌*◌, ◌/◌, ◌%◌, ◌^◌, ◌≤◌, ◌<◌}
use native.Mathlib.Nat.{add-zero}
use native.Mathlib.Omega.{arith}
use lib.Arith.{digits_div, digits_mod}
use lib.ListN.{length, get_or, drop}
use lib.Seq.{get_or-drop, drop-drop, drop-cons}
use Rattle.sheets.specs.Bytes.{le16, le32, two, four, Bytes}

-- ---- what was written is read; `next` is the place after it
pub two_read : (xs : List ℕ) (at next v : ℕ) (rest : List ℕ) → at + 2 ≡ next → drop at xs ≡ two v ++ rest → (le16 xs at ≡ v) × (drop next xs ≡ rest)
unfolding le16 two
two_read xs at next v rest n e =
    let low : get_or xs at 0 ≡ v % 256 = ap (λ (k : ℕ). get_or xs k 0) (sym (add-zero at)) ∙ sym (get_or-drop at xs 0 0) ∙ ap (λ (l : List ℕ). get_or l 0 0) e in
    let high : get_or xs (at + 1) 0 ≡ v / 256 = sym (get_or-drop at xs 1 0) ∙ ap (λ (l : List ℕ). get_or l 1 0) e in
    (omega arith, rw (← n) (sym (drop-drop 2 at xs) ∙ ap (drop 2) e))

pub four_read : (xs : List ℕ) (at next v : ℕ) (rest : List ℕ) → at + 4 ≡ next → drop at xs ≡ four v ++ rest → (le32 xs at ≡ v) × (drop next xs ≡ rest)
unfolding le32 four
four_read xs at next v rest n e =
    let low = two_read xs at (at + 2) (v % 65536) _ refl (e ∙ append_assoc (two (v % 65536)) (two (v / 65536)) rest) in
    let high = two_read xs (at + 2) next (v / 65536) rest (omega arith) low.1 in
    (omega arith, high.1)

-- ---- a number's two digits: of base 256 where it is two bytes, of base 65536 where it is four
module _ (m a b : ℕ) (h : a < m) where
  reorder : a + m * b ≡ b * m + a
  reorder = omega arith

  digit_low : (a + m * b) % m ≡ a
  digit_low = rw reorder (digits_mod b {m = m} {r = a} h)

  digit_high : (a + m * b) / m ≡ b
  digit_high = rw reorder (digits_div b {m = m} {r = a} h)

-- ---- what is read was written
module _ (xs : List ℕ) (B : Bytes xs) (at : ℕ) where
  pub le16_lt : le16 xs at < 65536
  unfolding le16 Bytes
  le16_lt = omega (arith, B at, B (at + 1))

  pub two_was : (next : ℕ) → at + 2 ≡ next → next ≤ length xs → drop at xs ≡ two (le16 xs at) ++ drop next xs
  unfolding le16 two Bytes
  two_was next n room =
      let low = get_or xs at 0 in
      let high = get_or xs (at + 1) 0 in
      let s : suc at ≡ at + 1 = omega arith in
      let t : suc (at + 1) ≡ next = omega arith in
      drop-cons xs at 0 (omega arith) ∙ rw (s, drop-cons xs (at + 1) 0 (omega arith), t) (sym (rw (digit_low 256 low high (B at), digit_high 256 low high (B at))))

module _ (xs : List ℕ) (B : Bytes xs) (at : ℕ) where
  pub le32_lt : le32 xs at < 2 ^ 32
  unfolding le32
  le32_lt = omega (arith, le16_lt xs B at, le16_lt xs B (at + 2))

  pub four_was : (next : ℕ) → at + 4 ≡ next → next ≤ length xs → drop at xs ≡ four (le32 xs at) ++ drop next xs
  unfolding le32 four
  four_was next n room =
      let low = le16 xs at in
      let high = le16 xs (at + 2) in
      let small = le16_lt xs B at in
      two_was xs B at (at + 2) refl (omega arith) ∙ ap (λ (l : List ℕ). two low ++ l) (two_was xs B (at + 2) next (omega arith) room)
      ∙ rw (digit_low 65536 low high small, digit_high 65536 low high small) (sym (append_assoc (two low) (two high) (drop next xs)))
