-- `list_by_tables` meets its contract: the filled tables stand for the selections. Assumes nothing.
use Rattle.runs.proofs.Marked.{marks_long, tables_walk, tables_listed}
use Rattle.runs.proofs.listing.list_by_tables.Goals as goal

pub invariant_of-track : goal.invariant_of-track
invariant_of-track g c = record {
  walks = tables_walk c.args.window c.requires.one c.requires.two _ _ (marks_long _ _ c.fill.ensures) (marks_long _ _ c.fill-2.ensures) _ _ c.side_at.ensures c.side_at-2.ensures;
}

pub returns : goal.returns
returns g c =
    tables_listed c.args.window c.requires.one c.requires.two _ _ (marks_long _ _ c.fill.ensures) (marks_long _ _ c.fill-2.ensures) c.list_if_held.ensures
