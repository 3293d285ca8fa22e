-- The table of a layout's owners stands for its elements, and what is looked ahead by it is theirs. Assumes nothing.
use mathlib.Core.Path.{fun_ext, ◌≡◌, refl, sym, ap, ◌∙◌}
use mathlib.Core.Bool.{Bool, false, ◌&&◌, true≢false}
use mathlib.Core.List.{List}
use mathlib.Core.Logic.{⊎_elim}
use Prim.Native.Nat.{ℕ, zero, suc, ◌+◌, ◌-◌, ◌%◌, ◌≤◌, ◌<◌}
use native.Mathlib.Nat.{zero-add, mod-lt}
use native.Mathlib.Numerals.{add-one}
use native.Mathlib.Omega.{arith}
use lib.Dec.{leb}
use lib.ListN.{length, get_or}
use borrow.Author.Tests.{eq-eqb, ne_eqb}
use Rattle.counting.specs.Gather.{tabulated}
use Rattle.counting.specs.Elements.{Elements, element, first_of}
use Rattle.counting.proofs.Cases.{by_test, lt_or_le}
use Rattle.counting.proofs.Gathers.{length_tabulated, get_or_tabulated, tabulated_ext}
use Rattle.counting.proofs.Elements.{first_lt, first_has, element_tabulated}
use Rattle.families.specs.declared.Layout.{Layout}
use Rattle.families.specs.Forest.{has}
use Rattle.families.specs.Decoded.{tree_of, selections}
use Rattle.families.specs.Owners.{owner}
use Rattle.families.proofs.Owning.{owner_one}
use Rattle.maps.specs.Selected.{elements_of, PatternOk}
use Rattle.moves.specs.declared.ahead.Stride.{Stride}
use Rattle.moves.specs.Owning.{held_by, Nexts, AllFilled}
use Rattle.parts.specs.Tabled.{tabled, Owned}
use Rattle.trays.specs.Tables.{NextsOf, Tables}

-- ---- what each element has of the pattern
module _ (t : Layout) where
  pub selections_long : length (selections 4 t) ≡ t.elements
  unfolding selections
  selections_long = length_tabulated 0 t.elements _

  selections_at : (e : ℕ) → e < t.elements → element (selections 4 t) e ≡ has (tree_of 4 t e)
  unfolding selections
  selections_at e h = element_tabulated (λ i. has (tree_of 4 t i)) t.elements e h

module _ {t : Layout} {size : ℕ} (P : PatternOk t size) {n : ℕ} (room : size ≤ n)
    (owners : List ℕ) (is : owners ≡ tabulated 0 n (owner (selections 4 t))) where
  abbrev L : Elements
  L = selections 4 t

  owners_held : size ≤ length owners
  owners_held = omega (arith, ap length is, length_tabulated 0 n (owner L))

  -- ---- a place of the pattern is that of the one element that has it
  module _ (u : ℕ) (inside : u < size) where
    owner_at : get_or owners u 0 ≡ owner L u
    owner_at = ap (λ (r : List ℕ). get_or r u 0) is ∙ get_or_tabulated 0 n (owner L) u 0 (omega arith) ∙ rw zero-add refl

    few : length L ≤ 254
    few = omega (arith, selections_long t, P.ok.room)

    first_there : first_of L u < length L
    first_there = first_lt L u (omega (arith, P.once u inside))

    owner_first : get_or owners u 0 ≡ first_of L u + 1
    owner_first =
        owner_at ∙ (owner_one L u (first_of L u) few first_there).1 (P.once u inside, first_has L u (omega (arith, P.once u inside)))

    owner_some : 1 ≤ get_or owners u 0
    owner_some = omega (arith, owner_first)

    owner_most : get_or owners u 0 ≤ t.elements
    owner_most = omega (arith, owner_first, first_there, selections_long t)

    held_is : (e : ℕ) → e < t.elements → held_by owners (suc e) u ≡ has (tree_of 4 t e) u
    held_is e h =
        let one = owner_one L u e few (omega (arith, selections_long t)) in
        let same : element L e u ≡ has (tree_of 4 t e) u = ap (λ (p : ℕ → Bool). p u) (selections_at t e h) in
        by_test (has (tree_of 4 t e) u)
        (λ y. eq-eqb _ _ (owner_at ∙ one.1 (P.once u inside, same ∙ y) ∙ add-one e) ∙ sym y)
        (λ z. ne_eqb _ _ (λ q. true≢false (sym (one.0 (sym owner_at ∙ q ∙ sym (add-one e))).1 ∙ same ∙ z)) ∙ sym z)

  -- ---- THE TABLE stands for the elements
  owners_owned : Owned t.elements size owners
  owners_owned = record { held = owners_held; some = owner_some; most = owner_most }

  owners_are : tabled t.elements t.displacement size owners ≡ elements_of t size
  unfolding tabled elements_of
  owners_are =
      tabulated_ext 0 t.elements _ _ (λ e _ l. fun_ext (λ x.
      let u = (x - t.displacement) % size in
      ap (λ (b : Bool). leb t.displacement x && b) (held_is u (mod-lt (x - t.displacement) P.least) e (omega arith))))

  -- ---- with the first places of the elements it is what `fill_strides` asks, and what that fills is the elements'
  module _ {nexts : List ℕ} (N : NextsOf t size nexts) where
    -- an owner is an element's number, or has no place
    by_owner : (C : ℕ → Type 0) → ((o : ℕ) → get_or nexts o 0 ≡ size → C o) → ((e : ℕ) → e < t.elements → C (suc e)) → (o : ℕ) → o < length nexts → C o
    by_owner C none some zero l = none 0 N.nobody
    by_owner C none some (suc e) l = ⊎_elim (some e) (λ k. none (suc e) (N.unused (suc e) (omega arith) (omega (arith, N.long)))) (lt_or_le e t.elements)

    pub owners_nexts : Nexts owners size nexts
    owners_nexts = record {
      some = P.least;
      held = owners_held;
      there = λ u l. omega (arith, owner_most u l, P.ok.room, N.long);
      past = by_owner (λ o. size ≤ get_or nexts o 0) (λ o z. omega (arith, z)) N.past;
      near = by_owner (λ o. get_or nexts o 0 < size + size) (λ o z. omega (arith, z, P.least)) (λ e h. omega (arith, (N.first e h).inside));
      none = λ o y l k. by_owner (λ i. y < get_or nexts i 0 - size → held_by owners i y ≡ false)
          (λ i z m. absurd (omega (arith, z)))
          (λ e h m. held_is y (omega (arith, (N.first e h).inside)) e h ∙ (N.first e h).none y m)
          o l k;
    }

    pub owners_tables : {strides : List Stride} → AllFilled owners size nexts strides → Tables t size owners strides
    owners_tables A = record {
      owned = owners_owned;
      is = owners_are;
      each = λ e h. A.each (suc e) (held_is _ (N.first e h).inside e h ∙ (N.first e h).picked);
    }
