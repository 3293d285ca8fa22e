-- One step of reading families, as the code takes it: a family with its children, then the siblings after it. Assumes nothing.
use mathlib.Core.Path.{◌≡◌, refl, sym, ap, ap₂, ◌∙◌}
use mathlib.Core.List.{List}
use Prim.Native.Nat.{ℕ, zero, suc, ◌+◌, ◌-◌, ◌*◌, ◌≤◌, ◌<◌, max}
use native.Mathlib.Omega.{arith}
use Rattle.families.specs.Forest.{Forest, nil, end_of}
use Rattle.families.specs.declared.Family.{Family}
use Rattle.families.specs.Flat.{total, flat}
use Rattle.sheets.specs.declared.records.Limits.{Limits}
use Rattle.sheets.specs.declared.trees.Step.{Step}
use Rattle.std.specs.Prelude.{Ok, Err}
use Rattle.sheets.specs.declared.refusals.Refused.{Refused}
use Rattle.sheets.specs.Refusals.{Read, got, refused, unless, and_then, fault_number}
use Rattle.sheets.specs.Records.{family_record, fault}
use Rattle.sheets.specs.Sheet.{within, beside, siblings_from, forest_from}
use Rattle.sheets.specs.Steps.{Checked, Stepped, Written}
use Rattle.sheets.proofs.Shapes.{node_at}
use Rattle.sheets.proofs.Answered.{unless_refuses}

-- ---- one step of the reader
pub unless_fault_lem : {A : Type 0} (k place : ℕ) (next : Read A) → (k ≡ 0 → ⊥) → unless k place next ≡ refused k place
unfolding unless
unless_fault_lem zero place next h = absurd (h refl)
unless_fault_lem (suc k) place next h = refl

module _ {A B : Type 0} (k place : ℕ) (first : Read A) (next : A → Read B) (fine : k ≡ 0) where
  pub first_refused : (number at : ℕ) → first ≡ refused number at → unless k place (and_then first next) ≡ refused number at
  unfolding unless and_then
  first_refused number at e = rw (fine, e) refl

  pub first_got : (thing : A) → first ≡ got thing → unless k place (and_then first next) ≡ next thing
  unfolding unless and_then
  first_got thing e = rw (fine, e) refl

pub none_read : (xs : List ℕ) (levels : ℕ) (m : Limits) (at : ℕ) → forest_from xs levels m 0 at ≡ got nil
unfolding forest_from siblings_from
none_read xs zero m at = refl
none_read xs (suc levels) m at = refl

-- a family's children, read with `fewer` levels; and the `left` siblings after it, in a tree with it
abbrev pub children : List ℕ → (fewer : ℕ) → Limits → (at : ℕ) → Read Forest
children xs fewer m at = forest_from xs fewer (within m (family_record xs at)) (family_record xs at).children (at + 22)

abbrev pub others : List ℕ → (levels : ℕ) → Limits → (left at : ℕ) → (kids : Forest) → Read Forest
others xs levels m left at kids = and_then (forest_from xs levels (beside m (family_record xs at) (total kids)) left (at + 22 * suc (total kids))) (λ rest. got (node_at xs at kids rest))

pub none_after : (xs : List ℕ) (levels : ℕ) (m : Limits) (at : ℕ) (kids : Forest) → others xs levels m 0 at kids ≡ got (node_at xs at kids nil)
unfolding and_then
none_after xs levels m at kids = rw (none_read xs levels (beside m (family_record xs at) (total kids)) (at + 22 * suc (total kids))) refl

abbrev stepped : List ℕ → (levels : ℕ) → Limits → (at fewer left : ℕ) → Read Forest
stepped xs levels m at fewer left = unless (fault levels m xs 3 at) at (and_then (children xs fewer m at) (others xs levels m left at))

pub step : (xs : List ℕ) (levels : ℕ) (m : Limits) (count at : ℕ) → 1 ≤ levels → 0 < count → forest_from xs levels m count at ≡ stepped xs levels m at (levels - 1) (count - 1)
unfolding forest_from siblings_from
step xs zero m count at deep some = absurd (omega arith)
step xs (suc levels) m zero at deep some = absurd (omega arith)
step xs (suc levels) m (suc k) at deep some = ap₂ (stepped xs (suc levels) m at) {x = levels} {y = suc levels - 1} {u = k} {v = suc k - 1} (omega arith) (omega arith)

module _ (xs : List ℕ) (levels : ℕ) (m : Limits) (count at : ℕ) (deep : 1 ≤ levels) (some : 0 < count) where
  pub fault_read : (r : Refused) → Checked (fault levels m xs 3 at) at (Err r) → forest_from xs levels m count at ≡ refused (fault_number r.fault) r.place
  fault_read r e = step xs levels m count at deep some ∙ unless_refuses r (fault levels m xs 3 at) at _ e

  module _ (fine : fault levels m xs 3 at ≡ 0) where
    pub children_refused : (number place : ℕ) → children xs (levels - 1) m at ≡ refused number place → forest_from xs levels m count at ≡ refused number place
    children_refused number place q = step xs levels m count at deep some ∙ first_refused _ at _ _ fine number place q

    pub children_got : (kids : Forest) → children xs (levels - 1) m at ≡ got kids → forest_from xs levels m count at ≡ others xs levels m (count - 1) at kids
    children_got kids q = step xs levels m count at deep some ∙ first_got _ at _ _ fine kids q

-- ---- what the code's answer tells
pub record StepGot (at from : ℕ) (s : Step) (R : Read Forest) : Type 0 where
  pub forest : Forest
  pub is : R ≡ got forest
  pub place : s.place ≡ at + 22 * total forest
  pub end : s.end ≡ max from (end_of forest)

pub step_got : (at from : ℕ) (s : Step) (R : Read Forest) → Stepped at from R (Ok s) → StepGot at from s R
step_got at from s (got F) e = record { forest = F; is = refl; place = ap (λ (t : Step). t.place) e; end = ap (λ (t : Step). t.end) e }
step_got at from s (refused k p) e = absurd e

pub step_refused : (at from : ℕ) (r : Refused) (R : Read Forest) → Stepped at from R (Err r) → R ≡ refused (fault_number r.fault) r.place
step_refused at from r (got F) e = absurd e
step_refused at from r (refused k p) e = ap₂ refused (sym e.0) (sym e.1)

-- a refusal is handed on
pub refused_on : (at from : ℕ) (R : Read Forest) (r : Refused) → R ≡ refused (fault_number r.fault) r.place → (before after : List Family)
    → Stepped at from R (Err r) × Written R before after
unfolding Written
refused_on at from R r e before after = rw e ((refl, refl), tt)

-- no sibling to read
pub none_on : (xs : List ℕ) (levels : ℕ) (m : Limits) (count at : ℕ) (fs : List Family) → count ≡ 0
    → Stepped at m.from (forest_from xs levels m count at) (Ok (record { place = at; end = m.from })) × Written (forest_from xs levels m count at) fs fs
unfolding Written total flat end_of
none_on xs levels m count at fs e =
    let place : at ≡ at + 22 * 0 = omega arith in
    let end : m.from ≡ max m.from 0 = omega arith in
    rw (e, none_read xs levels m at) (ap₂ (λ (a b : ℕ). record { place = a; end = b }) place end, refl)
