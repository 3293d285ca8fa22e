-- The first uneven offset, by a table of owners: the scan finds it, and the entry there tells its flag. Assumes nothing.
use mathlib.Core.Path.{◌≡◌, refl, sym, ap, ap₂, ◌∙◌}
use mathlib.Core.Bool.{Bool, true, false, ◌||◌, not, true≢false}
use mathlib.Core.List.{List, map}
use mathlib.Core.Logic.{⊎_elim}
use Prim.Native.Nat.{ℕ, ◌-◌, ◌≤◌, ◌<◌, min}
use native.Mathlib.Nat.{zero-add}
use native.Mathlib.Omega.{arith}
use lib.Dec.{eqb, ltb}
use lib.ListN.{length, take, get_or, length-map}
use lib.Seq.{get_or-take}
use borrow.Author.Tests.{eq-eqb, ne_eqb, eqb-true, eqb-false, lt-ltb, le-ltb, ltb-false}
use Rattle.counting.specs.Gather.{tabulated}
use Rattle.counting.specs.Elements.{times}
use Rattle.counting.proofs.Cases.{lt_or_le, same_or_not, by_test}
use Rattle.counting.proofs.Stretches.{stretch_le, stretch_all, stretch_stop}
use Rattle.counting.proofs.Gathers.{length_tabulated, get_or_tabulated}
use Rattle.families.specs.declared.Layout.{Layout}
use Rattle.families.specs.Forest.{Forest, has, WF}
use Rattle.families.specs.Flat.{All}
use Rattle.families.specs.Decoded.{tree_of, trees_of, selections, LayoutOk}
use Rattle.families.specs.Owners.{owner}
use Rattle.families.proofs.Owning.{owner_none, owner_many}
use Rattle.families.proofs.Flats.{selections_trees, trees_ok}
use Rattle.std.specs.Prelude.{Some, None, Ok, Err}
use Rattle.std.specs.List.{position, position_or_len}
use Rattle.std.proofs.lemmas.Option.{none-some}
use Rattle.std.proofs.lemmas.List.{length-take}
use Rattle.std.proofs.lemmas.List.Sums.{fails_before_first}
use Rattle.std.proofs.lemmas.List.Quantifiers.{position-Some}
use Rattle.sheets.specs.declared.refusals.Fault.TheVariants as fault
use Rattle.sheets.specs.Pattern.{sizes, in_elements, first_uneven}
use Rattle.sheets.specs.Uneven.{single, uneven_of}
use Rattle.sheets.proofs.Tiling.{uneven_below}

-- ---- the first uneven offset is at most the size, every offset before it is in one element, and it is not
module _ (Fs : List Forest) where
  pub uneven_le : first_uneven Fs ≤ sizes Fs
  unfolding first_uneven
  uneven_le = stretch_le _ 0 (sizes Fs)

  pub even_before : (y : ℕ) → y < first_uneven Fs → in_elements Fs y ≡ 1
  unfolding first_uneven
  even_before y h = eqb-true (in_elements Fs y) 1 (stretch_all (λ x. eqb (in_elements Fs x) 1) 0 (sizes Fs) y (omega arith) (omega arith))

  uneven_at : first_uneven Fs < sizes Fs → in_elements Fs (first_uneven Fs) ≡ 1 → ⊥
  unfolding first_uneven
  uneven_at h = eqb-false _ 1 (rw zero-add at (stretch_stop (λ x. eqb (in_elements Fs x) 1) 0 (sizes Fs) h))

-- ---- where the scan stops, and where not
abbrev stop : ℕ → Bool
stop v = eqb v 0 || eqb v 255

clash : (b : Bool) → b ≡ true → not b ≡ true → ⊥
clash true e f = true≢false (sym f)
clash false e f = true≢false (sym e)

clash' : (b : Bool) → b ≡ false → not b ≡ false → ⊥
clash' true e f = true≢false e
clash' false e f = true≢false f

single_yes : (v : ℕ) → (v ≡ 0 → ⊥) → (v ≡ 255 → ⊥) → single v ≡ true
single_yes v a b = rw (ne_eqb v 0 a, ne_eqb v 255 b) refl

all_passed : (p : ℕ → Bool) (xs : List ℕ) → position p xs ≡ None → length xs ≤ position_or_len p xs
all_passed p xs e = by_test (ltb (position_or_len p xs) (length xs))
    (λ some. absurd (none-some _ (sym (rw some at e))))
    (λ none. ltb-false _ _ none)

-- ---- an owner stands for one element where one element has the offset
owner_single : (L : List (ℕ → Bool)) (x : ℕ) → length L ≤ 254 → times L x ≡ 1 → single (owner L x) ≡ true
owner_single L x few e = single_yes (owner L x) (λ z. omega (arith, (owner_none L x).0 z)) (λ z. omega (arith, (owner_many L x few).0 z))

owner_uneven : (L : List (ℕ → Bool)) (x : ℕ) → length L ≤ 254 → (times L x ≡ 1 → ⊥) → single (owner L x) ≡ false
owner_uneven L x few h = ⊎_elim
    (λ e. rw ((owner_none L x).1 e) refl)
    (λ e. rw ((owner_many L x few).1 (omega arith)) refl)
    (same_or_not (times L x) 0)

-- ---- a table of owners that has a place for every offset that an element can have
pub record Owners (Fs : List Forest) (table : List ℕ) : Type 0 where
  pub some : 0 < length table
  pub ruled : All (WF 0 (length table - 1)) Fs
  pub few : length Fs ≤ 254
  pub is : table ≡ tabulated 0 (length table) (owner (map has Fs))

-- .. as `owners` paints it
pub owners_table : (t : Layout) (table : List ℕ) (m : ℕ) → 0 < m → LayoutOk 4 (m - 1) t → table ≡ tabulated 0 m (owner (selections 4 t)) → Owners (trees_of 4 t) table
unfolding trees_of
owners_table t table m some ok e =
    let long : length table ≡ m = ap length e ∙ length_tabulated 0 m _ in
    record {
      some = omega arith;
      ruled = rw long (trees_ok 4 (m - 1) t ok);
      few = omega (arith, length_tabulated 0 t.elements (tree_of 4 t), ok.room);
      is = e ∙ ap₂ (λ (n : ℕ) (L : List (ℕ → Bool)). tabulated 0 n (owner L)) (sym long) (selections_trees 4 t);
    }

module _ {Fs : List Forest} {table : List ℕ} (O : Owners Fs table) where
  few_selections : length (map has Fs) ≤ 254
  few_selections = omega (arith, length-map Fs has, O.few)

  entry : (x d : ℕ) → x < length table → get_or table x d ≡ owner (map has Fs) x
  entry x d h =
      ap (λ (l : List ℕ). get_or l x d) O.is ∙ get_or_tabulated 0 (length table) (owner (map has Fs)) x d h ∙ ap (owner (map has Fs)) (zero-add x)

  -- the table has a place for the first uneven offset
  pub uneven_inside : first_uneven Fs < sizes Fs → first_uneven Fs < length table
  uneven_inside h = omega (arith, uneven_below (length table - 1) Fs O.ruled (first_uneven Fs) (even_before Fs) h, O.some)

  -- THE SCAN FINDS IT: the first entry that does not stand for one element, before the table's end and the pattern's size
  module _ {end size : ℕ} (whole : size ≡ sizes Fs) (at : end ≡ min (length table) size) where
    scanned : (i : ℕ) → i < end → get_or (take end table) i 0 ≡ owner (map has Fs) i
    scanned i h = get_or-take end table i 0 h ∙ entry i 0 (omega arith)

    -- no entry before the first uneven offset stops it, and the one there does
    even_passes : (i : ℕ) → i < end → i < first_uneven Fs → stop (get_or (take end table) i 0) ≡ true → ⊥
    even_passes i h l e = clash (stop (owner (map has Fs) i)) (rw (scanned i h) at e) (owner_single (map has Fs) i few_selections (even_before Fs i l))

    uneven_stops : first_uneven Fs < end → stop (get_or (take end table) (first_uneven Fs) 0) ≡ false → ⊥
    uneven_stops h e = clash' (stop (owner (map has Fs) (first_uneven Fs))) (rw (scanned (first_uneven Fs) h) at e) (owner_uneven (map has Fs) (first_uneven Fs) few_selections (uneven_at Fs (omega arith)))

    pub place_found : (i : ℕ) → Some i ≡ position stop (take end table) → (i < end) × (i ≡ first_uneven Fs)
    place_found i e =
        let P = position-Some stop (take end table) i 0 (sym e) in
        let inside : i < end = omega (arith, P.0, length-take end table) in (
          inside,
          ⊎_elim
              (λ l. absurd (even_passes i inside l P.1))
              (λ l. ⊎_elim (λ m. absurd (uneven_stops (omega arith) (P.2 (first_uneven Fs) m))) (λ m. omega arith) (lt_or_le (first_uneven Fs) i))
              (lt_or_le i (first_uneven Fs)),
        )

    pub none_found : None ≡ position stop (take end table) → sizes Fs ≤ first_uneven Fs
    none_found e = ⊎_elim
        (λ l.
        let inside : first_uneven Fs < end = omega (arith, uneven_inside l) in
        let all = all_passed stop (take end table) (sym e) in
        absurd (uneven_stops inside (fails_before_first stop (take end table) (first_uneven Fs) 0 (omega (arith, all, length-take end table)))))
        (λ l. l)
        (lt_or_le (first_uneven Fs) (sizes Fs))

    -- the answer, by the entry at the place
    found_entry : (i : ℕ) → Some i ≡ position stop (take end table) → get_or table i 0 ≡ owner (map has Fs) (first_uneven Fs)
    found_entry i e = let P = place_found i e in entry i 0 (omega (arith, P.0)) ∙ ap (owner (map has Fs)) P.1

    uneven_below_size : (i : ℕ) → Some i ≡ position stop (take end table) → first_uneven Fs < sizes Fs
    uneven_below_size i e = let P = place_found i e in omega (arith, P.0, P.1)

    pub found_hole : (i : ℕ) → Some i ≡ position stop (take end table) → get_or table i 0 ≡ 0 → Err (record { fault = fault.Hole; place = i }) ≡ uneven_of Fs
    found_hole i e z =
        let none : in_elements Fs (first_uneven Fs) ≡ 0 = (owner_none (map has Fs) (first_uneven Fs)).0 (sym (found_entry i e) ∙ z) in
        rw (lt-ltb (first_uneven Fs) (sizes Fs) (uneven_below_size i e), eq-eqb (in_elements Fs (first_uneven Fs)) 0 none, (place_found i e).1) refl

    pub found_overlap : (i : ℕ) → Some i ≡ position stop (take end table) → (get_or table i 0 ≡ 0 → ⊥) → Err (record { fault = fault.Overlap; place = i }) ≡ uneven_of Fs
    found_overlap i e d =
        let some : in_elements Fs (first_uneven Fs) ≡ 0 → ⊥ = λ z. d (found_entry i e ∙ (owner_none (map has Fs) (first_uneven Fs)).1 z) in
        rw (lt-ltb (first_uneven Fs) (sizes Fs) (uneven_below_size i e), ne_eqb (in_elements Fs (first_uneven Fs)) 0 some, (place_found i e).1) refl

    pub found_none : None ≡ position stop (take end table) → Ok tt ≡ uneven_of Fs
    found_none e = rw (le-ltb (first_uneven Fs) (sizes Fs) (none_found e)) refl
