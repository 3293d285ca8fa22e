-- `first_uneven` meets its contract: the scan of the painted table stops at the first uneven offset. Assumes nothing.
use mathlib.Core.Path.{◌≡◌, ap, ◌∙◌}
use Prim.Native.Nat.{ℕ, min}
use lib.ListN.{length, length-replicate}
use Rattle.counting.specs.Gather.{tabulated}
use Rattle.counting.proofs.Gathers.{length_tabulated}
use Rattle.families.specs.Decoded.{trees_of, selections}
use Rattle.families.specs.Owners.{owner}
use Rattle.sheets.proofs.Unevens.{Owners, owners_table, found_hole, found_overlap, found_none}
use Rattle.sheets.proofs.pattern.first_uneven.Goals as goal
use Rattle.sheets.proofs.pattern.first_uneven.Goals.{After-scan}
use Rattle.sheets.proofs.pattern.first_uneven.Given.{Over}

-- the table that the scan goes over, and where it ends
painted : (g : Over) (c : After-scan g) → c.owners.new.table ≡ tabulated 0 g.row.N (owner (selections 4 c.args.layout))
painted g c = rw (length-replicate {A = ℕ} g.row.N 0) at c.owners.ensures

owners_at : (g : Over) (c : After-scan g) → Owners (trees_of 4 c.args.layout) c.owners.new.table
owners_at g c = owners_table c.args.layout _ g.row.N c.requires.some c.requires.ok (painted g c)

end_at : (g : Over) (c : After-scan g) → c.min-end.result ≡ min (length c.owners.new.table) c.args.size
end_at g c =
    let long : length c.owners.new.table ≡ g.row.N = ap length (painted g c) ∙ length_tabulated 0 g.row.N _ in
    rw long c.min-end.ensures

pub returns-in_default : goal.returns-in_default
returns-in_default g c =
    let s = (goal.at.returns-in_default g c).After-scan in
    found_none (owners_at g s) c.requires.whole (end_at g s) c.in_default.ensures

pub returns-then-table-place-eq0 : goal.returns-then-table-place-eq0
returns-then-table-place-eq0 g c =
    let s = (goal.at.returns-then-table-place-eq0 g c).After-scan in
    found_hole (owners_at g s) c.requires.whole (end_at g s) _ c.in-Some.ensures c.if-table-place-eq0.true

pub returns-else-table-place-eq0 : goal.returns-else-table-place-eq0
returns-else-table-place-eq0 g c =
    let s = (goal.at.returns-else-table-place-eq0 g c).After-scan in
    found_overlap (owners_at g s) c.requires.whole (end_at g s) _ c.in-Some.ensures c.if-table-place-eq0.false
