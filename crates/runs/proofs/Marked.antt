-- A table that is filled with a selection's marks stands for the selection. Assumes nothing.
use mathlib.Core.Path.{fun_ext, ◌≡◌, refl, sym, ap, ◌∙◌}
use mathlib.Core.Bool.{Bool, true, false, ◌&&◌}
use mathlib.Core.List.{List}
use Prim.Native.Nat.{ℕ, ◌-◌, ◌%◌, ◌≤◌, ◌<◌}
use native.Mathlib.Nat.{mod-lt, zero-add}
use native.Mathlib.Omega.{arith}
use lib.Dec.{leb, eqb}
use lib.ListN.{length, get_or, replicate, length-replicate, get_or-replicate}
use Rattle.counting.specs.Count.{bit}
use Rattle.counting.specs.Gather.{tabulated}
use Rattle.counting.proofs.Counts.{bit_le}
use Rattle.counting.proofs.Gathers.{length_tabulated, get_or_tabulated}
use Rattle.families.specs.declared.Family.{Family}
use Rattle.families.specs.Forest.{Forest, has, inner}
use Rattle.families.specs.Decoded.{family_in}
use Rattle.families.specs.Owners.{mark, painted}
use Rattle.families.proofs.Marks.{painted_is}
use Rattle.families.proofs.Loops.{rank_none}
use Rattle.families.proofs.Turns.{inner_has}
use Rattle.maps.specs.declared.Selection.{Selection}
use Rattle.maps.specs.declared.window.Window.{Window}
use Rattle.maps.specs.Selected.{families_of, belongs, SelectionOk}
use Rattle.maps.proofs.Mapped.{period_some}
use Rattle.runs.specs.declared.walks.Side.{Side}
use Rattle.runs.specs.Listing.{Listed}
use Rattle.runs.specs.Walking.{FitsTable, SideOk, SideAt, tabled, TableOk, Stands, WalksTo}

-- the marks of families, for n places
abbrev pub marks_of : Forest → (n : ℕ) → List ℕ
marks_of F n = tabulated 0 n (λ i. bit (has F i))

-- .. for as many as a table of n zeros has
pub marks_long : (F : Forest) (n : ℕ) {table : List ℕ} → table ≡ marks_of F (length (replicate {A = ℕ} n 0)) → table ≡ marks_of F n
marks_long F n is = is ∙ ap (marks_of F) (length-replicate {A = ℕ} n 0)

mark_zero : (b : Bool) → bit b ≡ mark 1 b 0
mark_zero true = refl
mark_zero false = refl

bit_marked : (b : Bool) → eqb (bit b) 1 ≡ b
bit_marked true = refl
bit_marked false = refl

module _ {s : Selection} {families : List Family} (ok : SelectionOk s families) where
  abbrev F : Forest
  F = families_of s families

  -- a selection has families
  tops_some : s.tops ≡ 0 → ⊥
  tops_some e = omega (arith, ok.some, ok.size, rank_none s.levels (family_in families) s.first s.tops s.period e)

  module _ {n : ℕ} (fits : FitsTable s families n) where
    -- ---- `fill`: a table of zeros is painted with ones
    pub fill_some : 0 < n
    fill_some = omega (arith, period_some ok, fits.period)

    pub fill_marks : (table table' : List ℕ) → length table ≡ n → table ≡ replicate n 0 → table' ≡ painted (inner F) 1 table → table' ≡ marks_of F n
    fill_marks table table' long zeros is =
        is
        ∙ ap (λ (p : ℕ → Bool). painted p 1 table) (inner_has s.levels (family_in families) s.first s.tops tops_some)
        ∙ sym (painted_is (has F) 1 table (marks_of F n) (length_tabulated 0 n _ ∙ sym long) (λ x h.
        get_or_tabulated 0 n _ x 0 (omega arith)
        ∙ rw (zero-add, zeros, get_or-replicate {A = ℕ} n x 0 0 (omega arith)) (mark_zero (has F x))))

    -- ---- such a table stands for the selection
    module _ (table : List ℕ) (is : table ≡ marks_of F n) where
      mark_at : (i : ℕ) → i < s.period → get_or table i 0 ≡ bit (has F i)
      mark_at i h = rw is (get_or_tabulated 0 n _ i 0 (omega (arith, fits.period)) ∙ rw zero-add refl)

      pub table_ok : TableOk s table
      table_ok = record {
        some = period_some ok;
        marks = λ i h. record {
          held = omega (arith, ap length is, length_tabulated 0 n (λ k. bit (has F k)), fits.period);
          bit = omega (arith, mark_at i h, bit_le (has F i));
        };
      }

      pub table_is : tabled s table ≡ belongs s families
      unfolding tabled belongs
      table_is = fun_ext (λ x.
          let i = (x - s.from) % s.period in
          ap (λ (b : Bool). leb s.from x && b) (ap (λ (v : ℕ). eqb v 1) (mark_at i (mod-lt (x - s.from) (period_some ok))) ∙ bit_marked (has F i)))

      pub side_stands : (x : ℕ) (t : Side) → s.from ≤ x → SideAt s families x t → Stands s table x t
      side_stands x t after at = record { ok = table_ok; after = after; place = at.place; rank = rw table_is at.rank }

-- ---- `list_by_tables`: what it asks, and what it has listed
module _ {s1 s2 : Selection} {families1 families2 : List Family} {n1 n2 : ℕ} (w : Window)
    (A : SideOk s1 families1 n1 w.start.0) (B : SideOk s2 families2 n2 w.start.0)
    (table1 table2 : List ℕ) (is1 : table1 ≡ marks_of (families_of s1 families1) n1) (is2 : table2 ≡ marks_of (families_of s2 families2) n2) where
  pub tables_walk : (one two : Side) → SideAt s1 families1 w.start.0 one → SideAt s2 families2 w.start.0 two
      → WalksTo w.end.0 s1 s2 table1 table2 (record { x = w.start; one = one; two = two })
  tables_walk one two e f = record {
    walks = record {
      one = side_stands A.ok A.fits table1 is1 w.start.0 one A.after e;
      two = side_stands B.ok B.fits table2 is2 w.start.0 two B.after f;
    };
    window = w.ok.ordered;
    near = w.ok.near;
  }

  pub tables_listed : {old new : List ℕ} {runs : ℕ} → Listed (tabled s1 table1) (tabled s2 table2) w.start.0 w.end.0 old new runs
      → Listed (belongs s1 families1) (belongs s2 families2) w.start.0 w.end.0 old new runs
  tables_listed L = rw (table_is A.ok A.fits table1 is1, table_is B.ok B.fits table2 is2) at L
