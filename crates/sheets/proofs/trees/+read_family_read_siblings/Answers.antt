-- `read_family` and `read_siblings` meet their contracts. The measure: the levels left, and among siblings how many are left. Assumes nothing.
use mathlib.Core.Path.{◌≡◌, refl, ap, ap₂, ◌∙◌}
use native.Mathlib.Omega.{arith}
use borrow.Author.Rules.{rules}
use Prim.Native.Nat.{ℕ, suc, ◌+◌, ◌-◌, ◌/◌, ◌≤◌}
use mathlib.Core.List.{List, ◌++◌}
use lib.ListN.{length, take, drop}
use borrow.Rule.Slice.PartMut.{same_len_mid}
use Rattle.std.specs.Prelude.{Ok}
use Rattle.std.proofs.lemmas.Result.{err_from_is_err_and}
use Rattle.sheets.proofs.Faults.{FamilyTaken}
use Rattle.sheets.proofs.Shapes.{family_inside}
use Rattle.sheets.proofs.Descent.{children, fault_read, children_refused, refused_on, none_on, step_refused}
use Rattle.sheets.proofs.SiblingSteps.{FirstRead, first_read, siblings_refused, span_is, rest_step, rest_written}
use Rattle.sheets.proofs.FamilySteps.{taken, KidsRead, kids_read, children_deep, families_read, family_step, family_written, spanned}
use Rattle.sheets.proofs.Lent.{room_behind}
use Rattle.sheets.specs.Records.{family_record, last_of}
use Rattle.families.specs.declared.Family.{Family}
use Rattle.families.specs.Flat.{total}
use Rattle.sheets.specs.Steps.{Stepped, Written}
use Rattle.sheets.proofs.trees.+read_family_read_siblings.Goals as goal
use Rattle.sheets.proofs.trees.+read_family_read_siblings.Goals.{read_family-After-read_siblings, read_family-In_ok-kids, read_family-In_ok-check_record, read_siblings-After-read_family, read_siblings-In_ok-first}

-- the family record at hand has no fault
taken_at : (t : ℕ) (c : read_family-In_ok-check_record t)
    → let a = c.args in
    FamilyTaken a.sheet.now a.levels a.limits a.at
taken_at t c = taken _ _ _ _ c.requires.some c.in_ok-check_record.ensures

-- what reading its children answered
kids-step : (t : ℕ) (c : read_family-In_ok-kids t)
    → let a = c.args in
    Stepped (a.at + 22) 0 (children a.sheet.now (a.levels - 1) a.limits a.at) (Ok c.in_ok-kids.kids)
kids-step t c = rw (c.inner_limits.ensures, c.family_record-f.ensures.held) at c.in_ok-kids.ensures.step

kids-at : (t : ℕ) (c : read_family-In_ok-kids t)
    → let a = c.args in
    KidsRead a.sheet.now a.levels a.limits a.at c.in_ok-kids.kids
kids-at t c = kids_read _ _ _ _ (omega arith) c.in_ok-check_record.ensures _ (kids-step t c)

-- the families with the children among them, as many as there were
abbrev kids-room : (t : ℕ) (c : read_family-After-read_siblings t) → List Family
kids-room t c =
    let fs = c.args.families.now in
    take 1 fs ++ (c.read_siblings.new.families ++ drop (length fs - 1) (drop 1 fs))

kids-room-long : (t : ℕ) (c : read_family-After-read_siblings t) → length (kids-room t c) ≡ length c.args.families.now
kids-room-long t c =
    let fs = c.args.families.now in
    same_len_mid 1 (length fs - 1) fs c.read_siblings.new.families (search rules)

-- and they stand behind a place for the family itself
kids-written : (t : ℕ) (c : read_family-After-read_siblings t)
    → let a = c.args in
    Written (children a.sheet.now (a.levels - 1) a.limits a.at) (take (length a.families.now - 1) (drop 1 a.families.now)) c.read_siblings.new.families
kids-written t c = rw (c.inner_limits.ensures, c.family_record-f.ensures.held) at c.read_siblings.ensures.written

pub read_family-returns-in_err-check_record : goal.read_family-returns-in_err-check_record
read_family-returns-in_err-check_record t c =
    let a = c.args in
    let p = err_from_is_err_and c.from_residual.result c.from_residual.ensures.1 in
    let is = fault_read a.sheet.now a.levels a.limits 1 a.at (omega arith) (omega arith) c.in_err-check_record.field-0.0 c.in_err-check_record.ensures in
    let on = refused_on _ _ _ c.in_err-check_record.field-0.0 is _ _ in
    rw (p.1, p.2) (record { step = on.0; written = on.1 })

pub read_family-family_record-f-requires : goal.read_family-family_record-f-requires
read_family-family_record-f-requires t c = family_inside _ _ (taken_at t c).head

pub read_family-inner_limits-requires : goal.read_family-inner_limits-requires
read_family-inner_limits-requires t c = let T = taken_at t (goal.at.read_family-inner_limits-requires t c).In_ok-check_record in rw c.family_record-f.ensures.held (record { forward = T.fits.forward; room = T.room })

pub read_family-slice_bounds-read_siblings-count : goal.read_family-slice_bounds-read_siblings-count
read_family-slice_bounds-read_siblings-count t c = omega (arith, (taken_at t (goal.at.read_family-slice_bounds-read_siblings-count t c).In_ok-check_record).room)

pub read_family-slice_bounds-read_siblings-start : goal.read_family-slice_bounds-read_siblings-start
read_family-slice_bounds-read_siblings-start t c = omega (arith, (taken_at t (goal.at.read_family-slice_bounds-read_siblings-start t c).In_ok-check_record).room)

pub read_family-read_siblings-requires : goal.read_family-read_siblings-requires
read_family-read_siblings-requires t c =
    let T = taken_at t (goal.at.read_family-read_siblings-requires t c).In_ok-check_record in
    let e = c.family_record-f.ensures in
    let deep : c.args.levels ≤ 1 → c.family_record-f.result.children ≡ 0 = rw e.held T.deep in
    let left = room_behind c.args.families.now c.args.limits.room 1 c.requires.long in
    (omega (arith, e.children, c.requires.some, c.decreases), (family_inside _ _ T.head, (children_deep _ _ e.children deep, rw c.inner_limits.ensures (omega (arith, c.requires.room), left))))

pub read_family-returns-in_err-kids : goal.read_family-returns-in_err-kids
read_family-returns-in_err-kids t c =
    let a = c.args in
    let p = err_from_is_err_and c.from_residual-in_err-kids.result c.from_residual-in_err-kids.ensures.1 in
    let e = rw (c.inner_limits.ensures, c.family_record-f.ensures.held) at c.in_err-kids.ensures.step in
    let is = children_refused a.sheet.now a.levels a.limits 1 a.at (omega arith) (omega arith) c.in_ok-check_record.ensures _ _ (step_refused _ _ c.in_err-kids.field-0.0 _ e) in
    let on = refused_on _ _ _ c.in_err-kids.field-0.0 is _ _ in
    rw (p.1, p.2) (record { step = on.0; written = on.1 })

pub read_family-overflow_cast-f : goal.read_family-overflow_cast-f
read_family-overflow_cast-f t c = let K = kids-at t (goal.at.read_family-overflow_cast-f t c).In_ok-kids in omega (arith, K.place, K.room)

pub read_family-bounds-families-0 : goal.read_family-bounds-families-0
read_family-bounds-families-0 t c =
    let p = goal.at.read_family-bounds-families-0 t c in
    omega (arith, kids-room-long t p.After-read_siblings, (taken_at t p.In_ok-check_record).room)

pub read_family-last_byte-requires-clause-some : goal.read_family-last_byte-requires-clause-some
read_family-last_byte-requires-clause-some t c =
    rw c.family_record-f.ensures.held (taken_at t (goal.at.read_family-last_byte-requires-clause-some t c).In_ok-check_record).fits.some

pub read_family-last_byte-requires-clause-forward : goal.read_family-last_byte-requires-clause-forward
read_family-last_byte-requires-clause-forward t c =
    rw c.family_record-f.ensures.held (taken_at t (goal.at.read_family-last_byte-requires-clause-forward t c).In_ok-check_record).fits.forward

pub read_family-returns : goal.read_family-returns
read_family-returns t c =
    let a = c.args in
    let K = kids-at t (goal.at.read_family-returns t c).In_ok-kids in
    let f = c.family_record-f.ensures.held in
    let last : c.last_byte.result ≡ last_of (family_record a.sheet.now a.at) = rw f at c.last_byte.ensures.last in
    let span : (c.in_ok-kids.kids.place - a.at) / 22 ≡ suc (total K.kids) = ap (λ (x : ℕ). (x - a.at) / 22) K.place ∙ families_read a.at (suc (total K.kids)) in
    let fine = c.in_ok-check_record.ensures in
    let room : 1 ≤ length a.families.now = omega (arith, c.requires.long, (taken_at t (goal.at.read_family-returns t c).In_ok-check_record).room) in
    record {
      step = rw last (family_step _ _ _ _ c.requires.some fine _ K);
      written = family_written _ _ _ _ c.requires.some fine _ K a.families.now c.read_siblings.new.families _ _ room refl (kids-written t (goal.at.read_family-returns t c).After-read_siblings) (ap₂ spanned f span);
    }

-- the first family was read
first_at : (t : ℕ) (c : read_siblings-In_ok-first t)
    → let a = c.args in
    FirstRead a.sheet.now a.levels a.limits a.count a.at c.in_ok-first.first
first_at t c = first_read _ _ _ _ _ (omega arith) (omega arith) (omega arith) _ c.in_ok-first.ensures.step

first-few : (t : ℕ) (c : read_siblings-In_ok-first t) → suc (total (first_at t c).kids) ≤ 256
first-few t c =
    omega (arith, (first_at t c).room)

-- the room with it is as long as it was
first-long : (t : ℕ) (c : read_siblings-After-read_family t)
    → length c.read_family.new.families ≡ length c.args.families.now
first-long t c = search rules

first-fits : (t : ℕ) (c : read_siblings-In_ok-first t)
    →
    (c.in_ok-first.first.place - c.args.at) / 22 ≤ length c.read_family.new.families
first-fits t c =
    let long : length c.read_family.new.families ≡ length c.args.families.now = search rules in
    omega (arith, span_is _ _ _ _ _ _ (first_at t c), (first_at t c).room, long)

pub read_siblings-returns-then-count-eq0 : goal.read_siblings-returns-then-count-eq0
read_siblings-returns-then-count-eq0 t c = let on = none_on _ _ _ _ _ _ c.if-count-eq0.true in record { step = on.0; written = on.1 }

pub read_siblings-returns-in_err-first : goal.read_siblings-returns-in_err-first
read_siblings-returns-in_err-first t c =
    let a = c.args in
    let p = err_from_is_err_and c.from_residual.result c.from_residual.ensures.1 in
    let is = siblings_refused _ _ _ _ a.count _ _ (omega arith) (omega arith) (step_refused _ _ c.in_err-first.field-0.0 _ c.in_err-first.ensures.step) in
    let on = refused_on _ _ _ c.in_err-first.field-0.0 is _ _ in
    rw (p.1, p.2) (record { step = on.0; written = on.1 })

pub read_siblings-overflow_cast-others : goal.read_siblings-overflow_cast-others
read_siblings-overflow_cast-others t c = let O = first_at t (goal.at.read_siblings-overflow_cast-others t c).In_ok-first in omega (arith, span_is _ _ _ _ _ _ O, O.room)

pub read_siblings-overflow_sub-others : goal.read_siblings-overflow_sub-others
read_siblings-overflow_sub-others t c = let O = first_at t (goal.at.read_siblings-overflow_sub-others t c).In_ok-first in omega (arith, span_is _ _ _ _ _ _ O, O.room)

pub read_siblings-offset_bounds-families-span : goal.read_siblings-offset_bounds-families-span
read_siblings-offset_bounds-families-span t c = let O = first_at t (goal.at.read_siblings-offset_bounds-families-span t c).In_ok-first in omega (arith, span_is _ _ _ _ _ _ O, first-few t (goal.at.read_siblings-offset_bounds-families-span t c).In_ok-first)

pub read_siblings-slice_bounds-read_siblings-count : goal.read_siblings-slice_bounds-read_siblings-count
read_siblings-slice_bounds-read_siblings-count t c = first-fits t (goal.at.read_siblings-slice_bounds-read_siblings-count t c).In_ok-first

pub read_siblings-slice_bounds-read_siblings-start : goal.read_siblings-slice_bounds-read_siblings-start
read_siblings-slice_bounds-read_siblings-start t c = first-fits t (goal.at.read_siblings-slice_bounds-read_siblings-start t c).In_ok-first

pub read_siblings-read_siblings-requires : goal.read_siblings-read_siblings-requires
read_siblings-read_siblings-requires t c =
    let a = c.args in
    let O = first_at t (goal.at.read_siblings-read_siblings-requires t c).In_ok-first in
    let k = (c.in_ok-first.first.place - a.at) / 22 in
    let fits : k ≤ a.limits.room = omega (arith, span_is _ _ _ _ _ _ O, O.room) in
    let long : length c.read_family.new.families ≡ a.limits.room = first-long t (goal.at.read_siblings-read_siblings-requires t c).After-read_family ∙ c.requires.long in
    let room = room_behind c.read_family.new.families a.limits.room k long in
    (omega (arith, c.decreases), (O.inside, (omega arith, (omega (arith, fits, c.requires.room), room))))

pub read_siblings-returns : goal.read_siblings-returns
read_siblings-returns t c =
    let O = first_at t (goal.at.read_siblings-returns t c).In_ok-first in
    let r = c.read_siblings in
    record {
      step = rest_step _ _ _ _ _ _ O _ r.ensures.step;
      written = rest_written _ _ _ _ _ _ O c.args.families.now c.read_family.new.families r.new.families _ refl c.read_family.ensures.written r.ensures.written;
    }
