use Rattle.aeth_cli.{specs.Machines.network_outcome, proofs.HeadlineLemmas.headline}
use Rattle.aeth_cli.proofs.headline.start.Goals as goal

-- The promise of the run.
pub returns-clause-promise : goal.returns-clause-promise
returns-clause-promise g c = c.run.ensures

-- The promise, and the laws.
pub returns-clause-headline : goal.returns-clause-headline
returns-clause-headline g c =
    headline (record {
      ends = c.simulations_end.ensures.headers;
      ends_tables = c.simulations_end.ensures.tables;
      named = c.commands_are_in_range.ensures.items;
      holds = c.runs_hold.ensures;
      simulated = c.simulated_runs.ensures network_outcome;
      allocated = c.allocated_designs.ensures;
      accepted = c.plans.ensures.accepted;
      refused = c.refusals.ensures.rightly;
      exactly = c.refusals.ensures.exactly;
      explained = c.refusals_are_explained.ensures.explained;
      confirmed = c.refusals_are_explained.ensures.confirmed;
      tabled = c.tables_bind.ensures;
      chained = c.chains_meet_bounds.ensures;
      linked = c.links_are_clean.ensures;
      audited = c.audits_are_exact.ensures;
    }) g.H.Shelf g.O.Sink g.E.Sink _ _ _ _ c.run.ensures
