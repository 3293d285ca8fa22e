-- Slots of eight bytes, taken out of a buffer and put back. Assumes nothing.
use mathlib.Core.Path.{◌≡◌, refl, sym, ap, ◌∙◌}
use mathlib.Core.List.{List, [], ◌∷◌, ◌++◌, append-nil, append_assoc}
use Prim.Native.Nat.{ℕ, zero, suc, ◌+◌, ◌*◌, ◌/◌, ◌≤◌, ◌<◌}
use native.Mathlib.Numerals.{add-one}
use native.Mathlib.Omega.{arith}
use Rattle.std.specs.Int.{to_le_bytes, w64}
use native.Mathlib.Nat.{div-div-eq-div-mul}
use lib.ListN.{length, take, drop, set, get_or, length-append}
use lib.Seq.{paste, length-take-le, take_all, take-suc, drop-length, drop-cons, drop-drop, append_snoc, set_at, take_at, drop-append-add}
use Rattle.answers.specs.Numbers.{le64, lowest, slots_in, slot_bytes, with_slots}

pub lowest_length : (k v : ℕ) → length (lowest k v) ≡ k
unfolding lowest
lowest_length zero v = refl
lowest_length (suc k) v = ap suc (lowest_length k (v / 256))

-- the eight bytes as std has them
pub lowest_bytes : (v : ℕ) → lowest 8 v ≡ to_le_bytes w64 v
unfolding lowest
lowest_bytes v = simp div-div-eq-div-mul refl

-- ---- i slots of a buffer are taken
pub slots_length : (n : ℕ) (xs : List ℕ) → length (slots_in n xs) ≡ n
unfolding slots_in
slots_length zero xs = refl
slots_length (suc n) xs = length-append (slots_in n xs) (le64 xs (8 * n) ∷ []) ∙ ap (λ (k : ℕ). k + 1) (slots_length n xs) ∙ add-one n

pub record Taken (buffer list : List ℕ) (i : ℕ) (here : List ℕ) : Type 0 where
  pub some : i ≤ length list
  pub is : here ≡ slots_in i buffer ++ drop i list

module _ {buffer list : List ℕ} where
  pub taken_none : Taken buffer list 0 list
  unfolding slots_in
  taken_none = record { some = omega arith; is = refl }

  module _ {i : ℕ} {here : List ℕ} (p : Taken buffer list i here) where
    pub taken_more : i < length list → Taken buffer list (i + 1) (set here i (le64 buffer (8 * i)))
    unfolding slots_in
    taken_more h =
        record {
          some = omega arith;
          is =
              rw (p.is, drop-cons list i 0 h, add-one)
              (set_at (slots_in i buffer) (get_or list i 0) (drop (suc i) list) (le64 buffer (8 * i)) i (slots_length i buffer)
              ∙ sym (append_snoc (slots_in i buffer) (le64 buffer (8 * i)) (drop (suc i) list)));
        }

    pub taken_all : length list ≤ i → here ≡ slots_in (length list) buffer
    taken_all h = let e : i ≡ length list = omega (arith, p.some) in rw (drop-length, append-nil) at (rw e at p.is)

-- ---- i slots are put back
slot_bytes_length : (vs : List ℕ) → length (slot_bytes vs) ≡ 8 * length vs
unfolding slot_bytes
slot_bytes_length [] = refl
slot_bytes_length (v ∷ vs) = length-append (lowest 8 v) (slot_bytes vs) ∙ omega (arith, lowest_length 8 v, slot_bytes_length vs)

pub slot_bytes_append : (vs ws : List ℕ) → slot_bytes (vs ++ ws) ≡ slot_bytes vs ++ slot_bytes ws
unfolding slot_bytes
slot_bytes_append [] ws = refl
slot_bytes_append (v ∷ vs) ws = ap (λ (l : List ℕ). lowest 8 v ++ l) (slot_bytes_append vs ws) ∙ sym (append_assoc (lowest 8 v) (slot_bytes vs) (slot_bytes ws))

-- one slot more
with_more : (vs xs : List ℕ) (v : ℕ) → paste (with_slots vs xs) (8 * length vs) (lowest 8 v) 8 ≡ with_slots (vs ++ (v ∷ [])) xs
unfolding with_slots slot_bytes
with_more vs xs v =
    let n : ℕ = 8 * length vs in
    let front : take n (slot_bytes vs ++ drop n xs) ≡ slot_bytes vs = take_at (slot_bytes vs) (drop n xs) n (slot_bytes_length vs) in
    let slot : take 8 (lowest 8 v) ≡ lowest 8 v = take_all 8 (lowest 8 v) (omega (arith, lowest_length 8 v)) in
    let behind : drop (n + 8) (slot_bytes vs ++ drop n xs) ≡ drop (n + 8) xs =
    rw slot_bytes_length at (drop-append-add (slot_bytes vs) (drop n xs) 8) ∙ drop-drop 8 n xs in
    let long : 8 * length (vs ++ (v ∷ [])) ≡ n + 8 = omega (arith, length-append vs (v ∷ [])) in
    rw (front, slot, behind, long, slot_bytes_append, append-nil) refl

pub record Returned (list before : List ℕ) (i : ℕ) (here : List ℕ) : Type 0 where
  pub some : i ≤ length list
  pub is : here ≡ with_slots (take i list) before

module _ {list before : List ℕ} where
  pub returned_none : Returned list before 0 before
  unfolding with_slots slot_bytes
  returned_none = record { some = omega arith; is = refl }

  module _ {i : ℕ} {here : List ℕ} (p : Returned list before i here) where
    pub returned_more : {after : List ℕ} → i < length list → after ≡ paste here (8 * i) (lowest 8 (get_or list i 0)) 8 → Returned list before (i + 1) after
    returned_more h e =
        record {
          some = omega arith;
          is =
              let n : length (take i list) ≡ i = length-take-le i list p.some in
              e
              ∙ ap (λ (l : List ℕ). paste l (8 * i) (lowest 8 (get_or list i 0)) 8) p.is
              ∙ rw n at (with_more (take i list) before (get_or list i 0))
              ∙ ap (λ (l : List ℕ). with_slots l before) (rw add-one (sym (take-suc list i 0 h)));
        }

    pub returned_all : length list ≤ i → here ≡ with_slots list before
    returned_all h = rw (take_all i list h) at p.is
