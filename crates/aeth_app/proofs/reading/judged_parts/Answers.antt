use Rattle.std.proofs.Common.{ap}
use Rattle.toml.specs.View.{table_view}
use Rattle.aeth_app.proofs.ToldLemmas.{told_connections-few, told_cores-few}
use Rattle.aeth_app.proofs.reading.judged_parts.Goals as goal

-- There are few cores.
pub judge_demands-requires-clause-few_cores : goal.judge_demands-requires-clause-few_cores
judge_demands-requires-clause-few_cores c =
    rw (c.deref.ensures.value, ap (λ app. app.cores) c.in_ok-settings.ensures.told)
    (told_cores-few c.args.chip.now (table_view c.args.root.now) c.requires.range)

-- And few connections.
pub judge_demands-requires-clause-few_connections
    : goal.judge_demands-requires-clause-few_connections
judge_demands-requires-clause-few_connections c =
    rw (c.deref-2.ensures.value, ap (λ app. app.connections) c.in_ok-settings.ensures.told)
    (told_connections-few c.args.chip.now (table_view c.args.root.now) c.requires.range)

-- No rule on what the tables ask for is broken.
pub returns-clause-within : goal.returns-clause-within
returns-clause-within c = rw (
  c.nis.ensures.nis,
  c.deref.ensures.value,
  c.deref-2.ensures.value,
  ap (λ app. app.cores) c.in_ok-settings.ensures.told,
  ap (λ app. app.connections) c.in_ok-settings.ensures.told,
) at c.in_ok-judge_demands.ensures.within
