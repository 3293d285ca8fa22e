-- A slot that was taken and not written gives its own bytes back: where shared runs leave the list as it was, the buffer is as it was. Assumes nothing.
use mathlib.Core.Path.{◌≡◌, refl, sym, ap, ◌∙◌}
use mathlib.Core.List.{List, [], ◌∷◌, ◌++◌, append-nil, append_assoc}
use Prim.Native.Nat.{ℕ, zero, suc, ◌+◌, ◌*◌, ◌/◌, ◌%◌, ◌^◌, ◌≤◌, ◌<◌}
use native.Mathlib.Omega.{arith}
use lib.ListN.{length, take, drop, take-append-drop}
use lib.Seq.{take-add, take_at}
use Rattle.sheets.specs.Bytes.{le32, two, four, Bytes}
use Rattle.sheets.proofs.Numbers.{le32_lt, four_was}
use Rattle.answers.specs.Numbers.{le64, lowest, slots_in, slots_of, slot_bytes, with_slots}
use Rattle.answers.proofs.Slots.{lowest_length, slots_length, slot_bytes_append}

lowest_cons : (k b rest : ℕ) → b < 256 → lowest (suc k) (b + 256 * rest) ≡ b ∷ lowest k rest
unfolding lowest
lowest_cons k b rest h =
    let low : (b + 256 * rest) % 256 ≡ b = omega arith in
    let high : (b + 256 * rest) / 256 ≡ rest = omega arith in
    rw (low, high) refl

-- the lowest four bytes of a number are those of its low half
lowest_four : (k low high : ℕ) → low < 2 ^ 32 → lowest (suc (suc (suc (suc k)))) (low + 4294967296 * high) ≡ four low ++ lowest k high
unfolding four two
lowest_four k low high h =
    let b0 : ℕ = low % 65536 % 256 in
    let b1 : ℕ = low % 65536 / 256 in
    let b2 : ℕ = low / 65536 % 256 in
    let b3 : ℕ = low / 65536 / 256 in
    let bytes : low + 4294967296 * high ≡ b0 + 256 * (b1 + 256 * (b2 + 256 * (b3 + 256 * high))) = omega arith in
    rw bytes
    (lowest_cons _ b0 _ (omega arith)
    ∙ ap (λ (l : List ℕ). b0 ∷ l) (lowest_cons _ b1 _ (omega arith))
    ∙ ap (λ (l : List ℕ). b0 ∷ b1 ∷ l) (lowest_cons _ b2 _ (omega arith))
    ∙ ap (λ (l : List ℕ). b0 ∷ b1 ∷ b2 ∷ l) (lowest_cons k b3 high (omega arith)))

lowest_eight : (low high : ℕ) → low < 2 ^ 32 → high < 2 ^ 32 → lowest 8 (low + 4294967296 * high) ≡ four low ++ four high
unfolding lowest
lowest_eight low high h k =
    let whole : high ≡ high + 4294967296 * 0 = omega arith in
    lowest_four 4 low high h ∙ ap (λ (l : List ℕ). four low ++ l) (ap (lowest 4) whole ∙ lowest_four 0 high 0 k ∙ append-nil (four high))

module _ (xs : List ℕ) (B : Bytes xs) where
  -- the bytes of what is read are what was read
  eight_was : (at : ℕ) → at + 8 ≤ length xs → drop at xs ≡ lowest 8 (le64 xs at) ++ drop (at + 8) xs
  unfolding le64
  eight_was at room =
      let low : ℕ = le32 xs at in
      let high : ℕ = le32 xs (at + 4) in
      four_was xs B at (at + 4) refl (omega arith)
      ∙ ap (λ (l : List ℕ). four low ++ l) (four_was xs B (at + 4) (at + 8) (omega arith) room)
      ∙ sym (append_assoc (four low) (four high) (drop (at + 8) xs))
      ∙ ap (λ (l : List ℕ). l ++ drop (at + 8) xs) (sym (lowest_eight low high (le32_lt xs B at) (le32_lt xs B (at + 4))))

  slots_back : (n : ℕ) → 8 * n ≤ length xs → slot_bytes (slots_in n xs) ≡ take (8 * n) xs
  unfolding slots_in slot_bytes
  slots_back zero h = refl
  slots_back (suc n) h =
      let v : ℕ = le64 xs (8 * n) in
      let more : 8 * n + 8 ≡ 8 * suc n = omega arith in
      let slot : take 8 (drop (8 * n) xs) ≡ lowest 8 v =
      ap (take 8) (eight_was (8 * n) (omega arith)) ∙ take_at (lowest 8 v) (drop (8 * n + 8) xs) 8 (lowest_length 8 v) in
      slot_bytes_append (slots_in n xs) (v ∷ [])
      ∙ ap (λ (l : List ℕ). slot_bytes (slots_in n xs) ++ l) (append-nil (lowest 8 v) ∙ sym slot)
      ∙ ap (λ (l : List ℕ). l ++ take 8 (drop (8 * n) xs)) (slots_back n (omega arith))
      ∙ sym (take-add (8 * n) 8 xs)
      ∙ ap (λ (k : ℕ). take k xs) more

  pub unwritten : with_slots (slots_of xs) xs ≡ xs
  unfolding with_slots
  unwritten = rw (slots_back (length xs / 8) (omega arith), slots_length) (take-append-drop (8 * (length xs / 8)) xs)
