-- Bytes put in hex, one after the other; and a buffer. Assumes nothing.
use mathlib.Core.Path.{◌≡◌, refl, sym, ap, ◌∙◌}
use mathlib.Core.List.{List, [], ◌∷◌, ◌++◌, append-nil}
use Prim.Native.Nat.{ℕ, suc, ◌+◌, ◌*◌, ◌/◌, ◌%◌, ◌≤◌, ◌<◌}
use native.Mathlib.Numerals.{add-one}
use native.Mathlib.Omega.{arith}
use lib.ListN.{length, take, drop, set, get_or}
use lib.Seq.{paste, length-paste, take-paste, take-length, take-suc, length-take-le, drop-cons, drop-length}
use borrow.Rule.Slice.Mut.{set_vals}
use borrow.Rule.Slice.PartMut.{put_mid}
use Rattle.std.proofs.lemmas.Slice.{put_mid-paste}
use Rattle.io.specs.Digits.{hex_digit_ascii}
use Rattle.answers.specs.Lines.{hex, buffer}
use Rattle.words.specs.Texts.{word}
use Rattle.words.specs.Written.{written, HasRoom, Put}
use Rattle.words.specs.declared.Text.{Text}
use Rattle.words.proofs.Puts.{put_within}

hex_append : (xs ys : List ℕ) → hex (xs ++ ys) ≡ hex xs ++ hex ys
unfolding hex
hex_append [] ys = refl
hex_append (x ∷ xs) ys = ap (λ (rest : List ℕ). hex_digit_ascii (x / 16) ∷ hex_digit_ascii (x % 16) ∷ rest) (hex_append xs ys)

hex_length : (bytes : List ℕ) → length (hex bytes) ≡ 2 * length bytes
unfolding hex
hex_length [] = refl
hex_length (b ∷ bs) = omega (arith, hex_length bs)

-- digits that were put over the part of a text that is lent for them
pub put_digits : (bytes : List ℕ) (t : Text) {k : ℕ} {digits : List ℕ} → HasRoom (2 * length bytes) t → k ≡ 2 * length bytes → digits ≡ hex bytes
    → Put (hex bytes) (2 * length bytes) t (record { bytes = set_vals (put_mid t.len k t.bytes.now digits) t.bytes; len = t.len + 2 * length bytes })
put_digits bytes t {k} {digits} room long is =
    let here = t.bytes.now in
    let e : length (hex bytes) ≡ 2 * length bytes = hex_length bytes in
    let pasted : put_mid t.len k here digits ≡ paste here t.len (hex bytes) (2 * length bytes) = put_mid-paste t.len k here digits (hex bytes) (2 * length bytes) is (sym long) (sym e) in
    let whole : take (2 * length bytes) (hex bytes) ≡ hex bytes = rw (← e) (take-length (hex bytes)) in
    record {
      text =
          rw pasted
          (take-paste here t.len (hex bytes) (2 * length bytes) (omega (arith, room)) (omega (arith, e))
          ∙ ap (λ (w : List ℕ). written t ++ w) whole);
      short = omega arith;
      kept = rw pasted (length-paste here t.len (hex bytes) (2 * length bytes) room (omega (arith, e)));
      same_reference = refl;
    }

-- two places of a list in a row are set
two_set : (front : List ℕ) (x y : ℕ) (behind : List ℕ) (a b : ℕ)
    → set (set (front ++ (x ∷ y ∷ behind)) (length front) a) (length front + 1) b ≡ (front ++ (a ∷ b ∷ [])) ++ behind
two_set [] x y behind a b = refl
two_set (z ∷ front) x y behind a b =
    let more : suc (length front) + 1 ≡ suc (length front + 1) = omega arith in
    rw more (ap (λ (l : List ℕ). z ∷ l) (two_set front x y behind a b))

-- ---- i bytes are written in hex
pub record Spelled (bytes before : List ℕ) (i : ℕ) (here : List ℕ) : Type 0 where
  pub some : i ≤ length bytes
  pub is : here ≡ hex (take i bytes) ++ drop (2 * i) before

module _ {bytes before : List ℕ} where
  pub spelled_none : Spelled bytes before 0 before
  unfolding hex
  spelled_none = record { some = omega arith; is = refl }

  module _ {i : ℕ} {here : List ℕ} (p : Spelled bytes before i here) (room : length before ≡ 2 * length bytes) where
    abbrev byte : ℕ
    byte = get_or bytes i 0

    -- one byte more
    module _ (h : i < length bytes) where
      hex_more : hex (take (i + 1) bytes) ≡ hex (take i bytes) ++ (hex_digit_ascii (byte / 16) ∷ hex_digit_ascii (byte % 16) ∷ [])
      unfolding hex
      hex_more = rw (add-one, take-suc bytes i 0) (hex_append (take i bytes) (byte ∷ []))

      pub spelled_more : {high low : ℕ} → high ≡ hex_digit_ascii (byte / 16) → low ≡ hex_digit_ascii (byte % 16)
          → Spelled bytes before (i + 1) (set (set here (2 * i) high) (2 * i + 1) low)
      spelled_more {high} {low} is_high is_low =
          let n : length (hex (take i bytes)) ≡ 2 * i = hex_length (take i bytes) ∙ ap (λ (k : ℕ). 2 * k) (length-take-le i bytes p.some) in
          let two : drop (2 * i) before ≡ get_or before (2 * i) 0 ∷ get_or before (suc (2 * i)) 0 ∷ drop (suc (suc (2 * i))) before =
          drop-cons before (2 * i) 0 (omega (arith, room)) ∙ ap (λ (l : List ℕ). get_or before (2 * i) 0 ∷ l) (drop-cons before (suc (2 * i)) 0 (omega (arith, room))) in
          let all : 2 * (i + 1) ≡ suc (suc (2 * i)) = omega arith in
          record {
            some = omega arith;
            is =
                rw (p.is, two, is_high, is_low, hex_more, all)
                (rw n at
                (two_set (hex (take i bytes)) (get_or before (2 * i) 0) (get_or before (suc (2 * i)) 0) (drop (suc (suc (2 * i))) before)
                (hex_digit_ascii (byte / 16)) (hex_digit_ascii (byte % 16))));
          }

    pub spelled_all : length bytes ≤ i → here ≡ hex bytes
    spelled_all h =
        let e : i ≡ length bytes = omega (arith, p.some) in
        let none : 2 * length bytes ≡ length before = omega (arith, room) in
        rw (take-length, none, drop-length, append-nil) at (rw e at p.is)

-- an empty buffer is a dash, and any other its bytes
module _ {before after : Text} where
  pub put_dash : (bytes : List ℕ) → length bytes ≡ 0 → Put (word "-") 1 before after → Put (buffer bytes) (2 * length bytes + 1) before after
  unfolding buffer
  put_dash [] e p = p
  put_dash (b ∷ bs) e p = absurd (omega arith)

  pub put_full : (bytes : List ℕ) → (length bytes ≡ 0 → ⊥) → Put (hex bytes) (2 * length bytes) before after
      → Put (buffer bytes) (2 * length bytes + 1) before after
  unfolding buffer
  put_full [] e p = absurd (e refl)
  put_full (b ∷ bs) e p = put_within _ (omega arith) p
