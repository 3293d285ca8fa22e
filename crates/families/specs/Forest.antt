-- Families and elements, as 01 has them: which offsets they select, how many, and the sheet rules. Assumes nothing: these are definitions.
use Rattle.std.specs.Prelude.{◌≡◌, Bool, true, false, ◌&&◌, ◌||◌, ◌⊎◌, ℕ, zero, suc, ◌+◌, ◌-◌, ◌*◌, ◌^◌, ◌≤◌, ◌<◌, max, leb}
use Rattle.counting.specs.Count.{count_below}

-- sibling families in order: the first with its l, r, s, n and its children, and then the rest
pub data Forest : Type 0 where
  nil : Forest
  node : (l r s n : ℕ) (kids rest : Forest) → Forest

abbrev pub is_nil : Forest → Bool
is_nil nil = true
is_nil (node l r s n kids rest) = false

-- some k below n passes the test p
unfoldable pub any_below : (ℕ → Bool) → ℕ → Bool
any_below p zero = false
any_below p (suc n) = any_below p n || p n

-- x lies between a and a + last, both included, and `inner` selects it, counted from a
abbrev pub in_segment : (ℕ → Bool) → (a last x : ℕ) → Bool
in_segment inner a last x = leb a x && (leb x (a + last) && inner (x - a))

-- THE SEGMENTS of a family: segment k starts at l + k * s and is r - l + 1 bytes long; `inner` says what is selected in each
unfoldable pub in_segments : (ℕ → Bool) → (l r s n x : ℕ) → Bool
in_segments inner l r s n x = any_below (λ k. in_segment inner (l + k * s) (r - l) x) n

-- WHAT FAMILIES SELECT: without children every byte of each segment, with children what they select there
unfoldable pub has : Forest → ℕ → Bool
has nil x = false
has (node l r s n kids rest) x = in_segments (λ y. is_nil kids || has kids y) l r s n x || has rest x

-- what one segment with these children selects, from its start
abbrev pub inner : Forest → ℕ → Bool
inner kids y = is_nil kids || has kids y

abbrev pub last_byte : (l r s n : ℕ) → ℕ
last_byte l r s n = l + (n - 1) * s + (r - l)

-- the first offset past every family
unfoldable pub end_of : Forest → ℕ
end_of nil = 0
end_of (node l r s n kids rest) = max (last_byte l r s n + 1) (end_of rest)

-- THE SIZE: how many offsets the families select
unfoldable pub size_of : Forest → ℕ
size_of F = count_below (has F) (end_of F)

-- ---- the sheet rules
-- with one segment the stride is 0; with more it is at least the segment's length
abbrev pub Stride : (l r s n : ℕ) → Type 0
Stride l r s n = ((n ≡ 1) × (s ≡ 0)) ⊎ ((2 ≤ n) × (r - l < s))

-- one family that starts no earlier than `from` and has its last byte at `bound` or before
pub record Fits (from bound l r s n : ℕ) : Type 0 where
  pub some : 1 ≤ n
  pub forward : l ≤ r
  pub stride : Stride l r s n
  pub after : from ≤ l
  pub inside : last_byte l r s n ≤ bound

-- siblings: each starts after its elder's last byte, and children end within one segment
unfoldable pub WF : (from bound : ℕ) → Forest → Type 0
WF from bound nil = Unit {0}
WF from bound (node l r s n kids rest) = Fits from bound l r s n × WF 0 (r - l) kids × WF (last_byte l r s n + 1) bound rest

-- the sheet rules, with a bound that 32 bits hold
abbrev pub Sound : Forest → Type 0
Sound F = WF 0 (2 ^ 32 - 1) F

-- .. and with one that no table's length passes, which is what the code asks of families that are lent
abbrev pub FARTHEST : ℕ
FARTHEST = 2 ^ 63 - 1

abbrev pub RulesKept : Forest → Type 0
RulesKept F = WF 0 FARTHEST F
