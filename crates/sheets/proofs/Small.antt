-- Every layout that meets the rules has a sheet: what `encode` writes of it are bytes. Assumes nothing.
use mathlib.Core.List.{List, [], ◌∷◌, ◌++◌}
use mathlib.Core.Logic.{inl, inr}
use Prim.Native.Nat.{ℕ, zero, suc, ◌-◌, ◌*◌, ◌/◌, ◌%◌, ◌^◌, ◌≤◌, ◌<◌}
use native.Mathlib.Nat.{mul_comm, mul-le-mul_right}
use native.Mathlib.Omega.{arith}
use lib.ListN.{length}
use Rattle.families.specs.Forest.{Forest, nil, node, Stride, Fits, WF}
use Rattle.families.specs.Flat.{width, total, totals, All}
use Rattle.sheets.specs.Bytes.{two, four, Bytes}
use Rattle.sheets.specs.Encode.{family_bytes, forest_bytes, element_bytes, elements_bytes, encode, ElementRules, Rules}

-- ---- lists of bytes
bytes_none : Bytes []
unfolding Bytes
bytes_none i = omega arith

bytes_append : (xs ys : List ℕ) → Bytes xs → Bytes ys → Bytes (xs ++ ys)
unfolding Bytes
bytes_append [] ys a b i = b i
bytes_append (x ∷ xs) ys a b zero = a 0
bytes_append (x ∷ xs) ys a b (suc i) = bytes_append xs ys (λ j. a (suc j)) b i

bytes_two : (v : ℕ) → v < 65536 → Bytes (two v)
unfolding Bytes two
bytes_two v h zero = omega arith
bytes_two v h (suc zero) = omega arith
bytes_two v h (suc (suc i)) = omega arith

bytes_four : (v : ℕ) → v < 2 ^ 32 → Bytes (four v)
unfolding four
bytes_four v h = bytes_append (two (v % 65536)) (two (v / 65536)) (bytes_two (v % 65536) (omega arith)) (bytes_two (v / 65536) (omega arith))

-- a number in front of more bytes
two_then : (v : ℕ) (ys : List ℕ) → v < 65536 → Bytes ys → Bytes (two v ++ ys)
two_then v ys h b = bytes_append (two v) ys (bytes_two v h) b

four_then : (v : ℕ) (ys : List ℕ) → v < 2 ^ 32 → Bytes ys → Bytes (four v ++ ys)
four_then v ys h b = bytes_append (four v) ys (bytes_four v h) b

-- ---- what the rules bound: a family's numbers by its last byte, a count of siblings by the room
record Small (l r s n : ℕ) : Type 0 where
  starts : l ≤ 65535
  ends : r ≤ 65535
  strides : s ≤ 65535
  segments : n ≤ 65536

factor_le : (a b : ℕ) → 1 ≤ a → b ≤ a * b
factor_le a b h = omega (arith, mul-le-mul_right {m = 1} {n = a} b h)

family_small : (from bound l r s n : ℕ) → bound ≤ 65535 → Fits from bound l r s n → Small l r s n
family_small from bound l r s n h f = go f.stride
  where
    go : Stride l r s n → Small l r s n
    go (inl one) = record { starts = omega (arith, f.inside); ends = omega (arith, f.inside, f.forward); strides = omega arith; segments = omega arith }
    go (inr more) =
        let last = f.inside in
        record {
          starts = omega arith;
          ends = omega (arith, f.forward);
          strides = omega (arith, factor_le (n - 1) s (omega arith));
          segments = omega (arith, factor_le s (n - 1) (omega arith), mul_comm s (n - 1));
        }

width_le : (F : Forest) → width F ≤ total F
unfolding width total
width_le nil = omega arith
width_le (node l r s n kids rest) = omega (arith, width_le rest)

-- ---- the bytes of each record
bytes_family : (l r s n children : ℕ) → Small l r s n → children < 65536 → Bytes (family_bytes l r s n children)
unfolding family_bytes
bytes_family l r s n children small h =
    two_then 20 _ (omega arith)
    (two_then 3 _ (omega arith)
    (four_then l _ (omega arith)
    (four_then r _ (omega arith)
    (four_then s _ (omega arith)
    (four_then n _ (omega arith)
    (bytes_two children h))))))

bytes_forest : (F : Forest) (from bound : ℕ) → WF from bound F → bound ≤ 65535 → total F ≤ 256 → Bytes (forest_bytes F)
unfolding WF total forest_bytes
bytes_forest nil from bound w b h = bytes_none
bytes_forest (node l r s n kids rest) from bound w b h =
    let small = family_small from bound l r s n b w.0 in
    bytes_append (family_bytes l r s n (width kids)) _ (bytes_family l r s n (width kids) small (omega (arith, width_le kids)))
    (bytes_append (forest_bytes kids) _ (bytes_forest kids 0 (r - l) w.1 (omega arith) (omega arith)) (bytes_forest rest _ bound w.2 b (omega arith)))

bytes_element : (F : Forest) → ElementRules F → total F ≤ 256 → Bytes (element_bytes F)
unfolding element_bytes
bytes_element F rules h =
    two_then 4 _ (omega arith) (two_then 2 _ (omega arith) (two_then (width F) _ (omega (arith, width_le F)) (bytes_forest F 0 65535 rules.families (omega arith) h)))

bytes_elements : (Fs : List Forest) → All ElementRules Fs → totals Fs ≤ 256 → Bytes (elements_bytes Fs)
unfolding All totals elements_bytes
bytes_elements [] each h = bytes_none
bytes_elements (F ∷ Fs) each h = bytes_append (element_bytes F) (elements_bytes Fs) (bytes_element F each.0 (omega arith)) (bytes_elements Fs each.1 (omega arith))

pub has_sheet : (d : ℕ) (Fs : List Forest) → Rules d Fs → Bytes (encode d Fs)
unfolding encode
has_sheet d Fs R =
    two_then 8 _ (omega arith) (two_then 1 _ (omega arith) (four_then d _ R.short (two_then (length Fs) _ (omega (arith, R.most)) (bytes_elements Fs R.each R.room))))
