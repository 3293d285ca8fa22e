-- A walk over the file offsets of two selections, by a table of one period of each. Assumes nothing: these are definitions.
use Rattle.std.specs.Prelude.{◌≡◌, Bool, true, false, not, cond, List, ℕ, ◌+◌, ◌-◌, ◌%◌, ◌^◌, ◌≤◌, ◌<◌, ltb, eqb, length, get_or}
use Rattle.counting.specs.Count.{count_below, stretch}
use Rattle.counting.specs.Periodic.{owns}
use Rattle.families.specs.declared.Family.{Family}
use Rattle.families.specs.Forest.{WF}
use Rattle.maps.specs.declared.Selection.{Selection}
use Rattle.maps.specs.Selected.{families_of, belongs, SelectionOk}
use Rattle.runs.specs.declared.walks.Side.{Side}
use Rattle.runs.specs.declared.walks.Walk.{Walk}
use Rattle.runs.specs.Listing.{both}

-- a table of n places has one for every offset of the families, and for every place of a period
pub record FitsTable (s : Selection) (families : List Family) (n : ℕ) : Type 0 where
  pub ruled : WF 0 (n - 1) (families_of s families)
  pub period : s.period ≤ n

-- what the code asks of a selection that is made of some families, where a window starts at `start`
pub record SideOk (s : Selection) (families : List Family) (n start : ℕ) : Type 0 where
  pub ok : SelectionOk s families
  pub fits : FitsTable s families n
  pub after : s.from ≤ start

-- t says where x stands in a selection: its place in a period, and its rank
pub record SideAt (s : Selection) (families : List Family) (x : ℕ) (t : Side) : Type 0 where
  pub place : t.place ≡ (x - s.from) % s.period
  pub rank : t.rank.0 ≡ count_below (belongs s families) x

-- ---- a table of one period: 1 where the place is selected, and 0 elsewhere
abbrev pub marked : (table : List ℕ) → ℕ → Bool
marked table i = eqb (get_or table i 0) 1

-- place i of the table is there, and holds one of the two
pub record Marks (table : List ℕ) (i : ℕ) : Type 0 where
  pub held : i < length table
  pub bit : get_or table i 0 ≤ 1

-- the selection that a table stands for
unfoldable pub tabled : Selection → (table : List ℕ) → ℕ → Bool
tabled s table x = owns s.from s.period (marked table) x

-- .. where it has a mark for every place of a period
pub record TableOk (s : Selection) (table : List ℕ) : Type 0 where
  pub some : 1 ≤ s.period
  pub marks : (i : ℕ) → i < s.period → Marks table i

-- ---- where a walk stands
-- t says where x stands in the selection of such a table
pub record Stands (s : Selection) (table : List ℕ) (x : ℕ) (t : Side) : Type 0 where
  pub ok : TableOk s table
  pub after : s.from ≤ x
  pub place : t.place ≡ (x - s.from) % s.period
  pub rank : t.rank.0 ≡ count_below (tabled s table) x

-- .. and w where its offset stands in each of two
pub record Walks (s1 s2 : Selection) (table1 table2 : List ℕ) (w : Walk) : Type 0 where
  pub one : Stands s1 table1 w.x.0 w.one
  pub two : Stands s2 table2 w.x.0 w.two

-- .. on its way to `end`
pub record WalksTo (end : ℕ) (s1 s2 : Selection) (table1 table2 : List ℕ) (w : Walk) : Type 0 where
  pub walks : Walks s1 s2 table1 table2 w
  pub window : w.x.0 ≤ end
  pub near : end ≤ 2 ^ 40

-- one offset further: the next place, or the first of the next period; the rank is one more where the place is marked
abbrev pub next_side : (table : List ℕ) → (period : ℕ) → Side → Side
next_side table period t = record {
  place = cond (ltb (t.place + 1) period) (t.place + 1) 0;
  rank = record { 0 = t.rank.0 + get_or table t.place 0 };
}

-- a test is as wanted
abbrev pub is : (wanted : Bool) → Bool → Bool
is true b = b
is false b = not b

-- the walk went from one offset to another on its way to `end`: over all offsets that follow and are in both, or over all that are not
pub record Passed (s1 s2 : Selection) (table1 table2 : List ℕ) (wanted : Bool) (end from : ℕ) (to : Walk) : Type 0 where
  pub walks : Walks s1 s2 table1 table2 to
  pub up_to : to.x.0 ≡ from + stretch (λ x. is wanted (both (tabled s1 table1) (tabled s2 table2) x)) from (end - from)
