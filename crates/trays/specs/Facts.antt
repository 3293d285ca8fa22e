-- That the elements of a layout share its pattern out is a fact: two proofs of it are the same, so that a struct can carry one. Assumes nothing.
use mathlib.Core.Path.{◌≡◌, ap}
use Rattle.std.specs.Prelude.{ℕ}
use native.Mathlib.Nat.{ℕ_set}
use native.Mathlib.Bridge.{le_prop}
use Rattle.families.specs.declared.Family.{Family}
use Rattle.families.specs.declared.Layout.{Layout}
use Rattle.families.specs.Props.{WF-prop}
use Rattle.families.specs.Decoded.{InUse, tree_of, LayoutOk}
use Rattle.maps.specs.Selected.{PatternOk}

-- a family is its numbers
family_set : (f g : Family) → IsProp (f ≡ g)
family_set f g p q = λ i j. record {
  l = ℕ_set f.l g.l (ap (λ (h : Family). h.l) p) (ap (λ (h : Family). h.l) q) i j;
  r = ℕ_set f.r g.r (ap (λ (h : Family). h.r) p) (ap (λ (h : Family). h.r) q) i j;
  s = ℕ_set f.s g.s (ap (λ (h : Family). h.s) p) (ap (λ (h : Family). h.s) q) i j;
  n = ℕ_set f.n g.n (ap (λ (h : Family). h.n) p) (ap (λ (h : Family). h.n) q) i j;
  children = ℕ_set f.children g.children (ap (λ (h : Family). h.children) p) (ap (λ (h : Family). h.children) q) i j;
  span = ℕ_set f.span g.span (ap (λ (h : Family). h.span) p) (ap (λ (h : Family). h.span) q) i j;
}

used_prop : (n : ℕ) (look : ℕ → Family) → IsProp (InUse n look)
used_prop n look x y = λ i. record { most = le_prop x.most y.most i; none = λ k l. family_set _ _ (x.none k l) (y.none k l) i }

layout_prop : (levels bound : ℕ) (t : Layout) → IsProp (LayoutOk levels bound t)
layout_prop levels bound t x y = λ i. record {
  room = le_prop x.room y.room i;
  used = used_prop _ _ x.used y.used i;
  some = λ e h. le_prop (x.some e h) (y.some e h) i;
  ruled = λ e h. WF-prop 0 bound (tree_of levels t e) (x.ruled e h) (y.ruled e h) i;
}

pub pattern_prop : (t : Layout) (size : ℕ) → IsProp (PatternOk t size)
pattern_prop t size x y = λ i. record {
  ok = layout_prop 4 65535 t x.ok y.ok i;
  least = le_prop x.least y.least i;
  most = le_prop x.most y.most i;
  once = λ k l. ℕ_set _ _ (x.once k l) (y.once k l) i;
  past = λ k l. ℕ_set _ _ (x.past k l) (y.past k l) i;
}
