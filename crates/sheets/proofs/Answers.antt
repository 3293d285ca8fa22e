-- From what was read to the answer: the arrays are the layout of the trees, and its pattern is judged. Assumes nothing.
use mathlib.Core.Path.{◌≡◌, refl, sym, ap, ◌∙◌}
use mathlib.Core.List.{List, [], ◌∷◌, ◌++◌}
use Prim.Native.Nat.{ℕ, suc, ◌+◌, ◌-◌, ◌≤◌}
use native.Mathlib.Nat.{zero-add}
use native.Mathlib.Omega.{arith}
use lib.ListN.{length, replicate, length-replicate}
use lib.Seq.{sets, sets-eq}
use mathlib.Core.Bool.{true≢false}
use lib.Dec.{eqb, ltb}
use Rattle.std.specs.Result.{is_ok}
use Rattle.std.proofs.lemmas.List.{drop-replicate}
use Rattle.counting.proofs.Cases.{by_test}
use Rattle.families.specs.declared.Family.{Family}
use Rattle.families.specs.declared.Layout.{Layout}
use Rattle.families.specs.Forest.{Forest, nil, node, end_of}
use Rattle.families.specs.Decoded.{no_element, no_family, trees_of, LayoutOk}
use Rattle.families.specs.Flat.{width, totals, flats, elements_at, layout_of, All}
use Rattle.families.proofs.Forests.{wf_ended, end_le}
use Rattle.families.proofs.Flats.{ElementOk, length_elements, trees_back, layout_ok}
use Rattle.sheets.specs.declared.elements.Progress.{Progress}
use Rattle.std.specs.Prelude.{Result, Ok, Err}
use Rattle.sheets.specs.declared.refusals.Refused.{Refused}
use Rattle.sheets.specs.Answered.{reading_of}
use Rattle.sheets.specs.Refusals.{got, refused, HOLE_OR_OVERLAP, fault_number}
use Rattle.sheets.specs.Bytes.{le32}
use Rattle.sheets.specs.Encode.{ElementRules}
use Rattle.sheets.specs.Sheet.{elements_of, refusal, accepted, judged, answer, read_sheet, Reading}
use Rattle.sheets.specs.Pattern.{sizes, first_uneven, flag_of}
use Rattle.sheets.specs.Uneven.{fault_of, uneven_of}
use Rattle.sheets.specs.Steps.{ends, start, Progressed, WrittenAll, layout_from, judged_layout}
use Rattle.sheets.proofs.Tiling.{each_shallow}
use Rattle.sheets.proofs.Numbered.{Numbered, sheet_numbered}
use Rattle.sheets.proofs.Answered.{no_flag}

-- ---- unused room is blank
padded : {A : Type 0} (n : ℕ) (a : A) (vs : List A) (k : ℕ) → length vs ≡ k → k ≤ n → sets (replicate n a) 0 vs ≡ vs ++ replicate (n - k) a
padded {A = A} n a vs k e h =
    sets-eq vs (replicate n a) 0 (omega (arith, length-replicate n a))
    ∙ ap (λ (l : List A). vs ++ l) (drop-replicate (0 + length vs) n a ∙ ap (λ (j : ℕ). replicate j a) {x = n - (0 + length vs)} {y = n - k} (omega arith))

-- ---- THE LAYOUT: what was read, decoded, is the layout of its trees
module _ (Fs : List Forest) (few : length Fs ≤ 16) where
  pub layout_is : (d : ℕ) (p : Progress) (fs : List Family) → Progressed (got Fs) start (Ok p) → WrittenAll (got Fs) (replicate 256 no_family) fs
      → layout_from d p fs ≡ layout_of d Fs
  unfolding Progressed start layout_from layout_of WrittenAll
  layout_is d p fs e w =
      rw (e, w)
      (λ i. record {
        displacement = d;
        elements = zero-add (length Fs) i;
        families = zero-add (totals Fs) i;
        element = padded 16 no_element (elements_at 0 Fs) (length Fs) (length_elements 0 Fs) few i;
        family = flats Fs ++ drop-replicate (totals Fs) 256 no_family i;
      })

-- ---- where the elements end: the rules hold with that bound
pub end_is : (Fs : List Forest) (p : Progress) → Progressed (got Fs) start (Ok p) → p.end ≡ ends Fs
unfolding Progressed start
end_is Fs p e = ap (λ (q : Progress). q.end) e ∙ omega arith

each_ended : (Fs : List Forest) (b : ℕ) → All ElementRules Fs → ends Fs ≤ suc b → All (ElementOk b) Fs
unfolding All ends
each_ended [] b e h = tt
each_ended (F ∷ Fs) b e h = ((e.0.some, wf_ended F 0 65535 b e.0.families (omega arith)), each_ended Fs b e.1 (omega arith))

end_some : (F : Forest) → 1 ≤ width F → 1 ≤ end_of F
unfolding width end_of
end_some nil h = absurd (omega arith)
end_some (node l r s n kids rest) h = omega arith

pub ends_some : (Fs : List Forest) → All ElementRules Fs → 1 ≤ length Fs → 1 ≤ ends Fs
unfolding All ends
ends_some [] e h = absurd (omega arith)
ends_some (F ∷ Fs) e h = omega (arith, end_some F e.0.some)

pub ends_most : (Fs : List Forest) → All ElementRules Fs → ends Fs ≤ 65536
unfolding All ends
ends_most [] e = omega arith
ends_most (F ∷ Fs) e = omega (arith, end_le 0 65535 F e.0.families, ends_most Fs e.1)

pub ok_ended : (d : ℕ) (Fs : List Forest) (end : ℕ) → end ≡ ends Fs → All ElementRules Fs → 1 ≤ length Fs → length Fs ≤ 16 → totals Fs ≤ 256
    → LayoutOk 4 (end - 1) (layout_of d Fs)
ok_ended d Fs end q e some few room =
    let h = ends_some Fs e some in
    layout_ok 4 (end - 1) d Fs (each_shallow Fs e) (each_ended Fs (end - 1) e (omega arith)) few room

-- ---- NUMBER 11
err-ok : {r : Refused} → ◌≡◌ {A = Result (Unit {0}) Refused} (Ok tt) (Err r) → ⊥
err-ok e = true≢false (ap is_ok e)

same_refusal : (k place : ℕ) (r : Refused) → ◌≡◌ {A = Result (Unit {0}) Refused} (Err r) (Err (record { fault = fault_of k; place = place })) → reading_of (Err r) ≡ refusal HOLE_OR_OVERLAP place (flag_of k)
same_refusal k place r e = by_test (eqb k 0)
    (λ none. rw none (refused_reading (rw none at e)))
    (λ some. rw some (refused_reading (rw some at e)))
  where
    refused_reading : {q : Refused} → ◌≡◌ {A = Result (Unit {0}) Refused} (Err r) (Err q) → reading_of (Err r) ≡ reading_of (Err q)
    refused_reading e = ap again e
      where
        again : Result (Unit {0}) Refused → Reading
        again (Ok thing) = refusal 0 0 0
        again (Err f) = reading_of (Err f)

pub judged_is : (d : ℕ) (Fs : List Forest) → All ElementRules Fs → judged_layout (layout_of d Fs) ≡ judged d Fs
unfolding judged_layout judged accepted
judged_is d Fs e = rw (trees_back 4 d Fs (each_shallow Fs e)) refl

-- .. as the code finds it
module _ (t : Layout) where
  pub judged_even : (size : ℕ) → Ok tt ≡ uneven_of (trees_of 4 t) → size ≡ sizes (trees_of 4 t) → reading_of (Ok (record { layout = t; size = size })) ≡ judged_layout t
  unfolding judged_layout
  judged_even size e k = by_test (ltb (first_uneven (trees_of 4 t)) (sizes (trees_of 4 t)))
      (λ uneven. absurd (err-ok (rw uneven at e)))
      (λ even. rw (even, k) refl)

  pub judged_uneven : (r : Refused) → Err r ≡ uneven_of (trees_of 4 t) → reading_of (Err r) ≡ judged_layout t
  unfolding judged_layout
  judged_uneven r e = by_test (ltb (first_uneven (trees_of 4 t)) (sizes (trees_of 4 t)))
      (λ uneven. rw uneven (same_refusal _ _ r (rw uneven at e)))
      (λ even. absurd (err-ok (sym (rw even at e))))

-- ---- THE ANSWER
pub answer_refused : (xs : List ℕ) (r : Refused) → elements_of xs ≡ refused (fault_number r.fault) r.place → reading_of (Err r) ≡ read_sheet xs
unfolding read_sheet answer Numbered
answer_refused xs r e = rw (e, no_flag r.fault (rw e at (sheet_numbered xs))) refl

pub answer_got : (xs : List ℕ) (Fs : List Forest) → elements_of xs ≡ got Fs → read_sheet xs ≡ judged (le32 xs 4) Fs
unfolding read_sheet answer
answer_got xs Fs e = rw e
