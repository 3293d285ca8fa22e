-- Parts of the families' room that are lent and given back, and families that stand in front of it. Assumes nothing.
use mathlib.Core.Path.{◌≡◌, refl, sym, ap, ap₂, ◌∙◌}
use mathlib.Core.List.{List, ◌++◌, append-nil, append_assoc}
use Prim.Native.Nat.{ℕ, ◌+◌, ◌-◌}
use native.Mathlib.Omega.{arith}
use lib.ListN.{length, take, drop, length-drop, drop_of_length-le}
use lib.Seq.{take_at, drop_at, drop-drop, take_all}
use Rattle.families.specs.declared.Family.{Family}

-- a part of the room from `from` to its end, lent and given back
pub part_lent : (from : ℕ) (fs : List Family) (n : ℕ) → n ≡ length fs - from → take n (drop from fs) ≡ drop from fs
part_lent from fs n e = take_all n (drop from fs) (omega (arith, length-drop from fs))

pub part_back : (from : ℕ) (fs gs : List Family) (n : ℕ) → n ≡ length fs - from → take from fs ++ (gs ++ drop n (drop from fs)) ≡ take from fs ++ gs
part_back from fs gs n e = rw (drop_of_length-le (drop from fs) {i = n} (omega (arith, length-drop from fs)), append-nil gs) refl

-- the room that is left behind `span` families
pub room_behind : (fs : List Family) (room span : ℕ) → length fs ≡ room → length (take (length fs - span) (drop span fs)) ≡ room - span
room_behind fs room span e = ap length (part_lent span fs (length fs - span) refl) ∙ length-drop span fs ∙ omega arith

-- families in front of the room, and more of them written into the part behind
pub families_joined : (gs hs : List Family) (a b : ℕ) (before after behind : List Family) (n : ℕ) → length gs ≡ a → n ≡ length after - a
    → after ≡ gs ++ drop a before → behind ≡ hs ++ drop b (take n (drop a after))
    → take a after ++ (behind ++ drop n (drop a after)) ≡ (gs ++ hs) ++ drop (a + b) before
families_joined gs hs a b before after behind n long e f g =
    let left : drop a after ≡ drop a before = ap (drop a) f ∙ drop_at gs (drop a before) a long in
    let more : behind ≡ hs ++ drop b (drop a before) = rw (part_lent a after n e, left) at g in
    part_back a after behind n e
    ∙ ap₂ ◌++◌ (ap (take a) f ∙ take_at gs (drop a before) a long) more
    ∙ sym (append_assoc gs hs (drop b (drop a before)))
    ∙ ap (λ (fs : List Family). (gs ++ hs) ++ fs) (drop-drop b a before)
