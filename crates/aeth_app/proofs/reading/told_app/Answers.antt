use Rattle.std.proofs.Common.{◌≡◌, ℕ, length, ap, subst, arith, All}
use Rattle.toml.specs.View.{table_view}
use Rattle.aeth_app.specs.{App.IsApp, App.IsConnection, AppParts.app_with}
use Rattle.aeth_app.proofs.ToldLemmas.{are_names, is_app, is_app_of}
use Rattle.aeth_app.proofs.reading.told_app.Goals as goal

-- The connections are few, and between its cores.
pub positions_of-requires-clause-few : goal.positions_of-requires-clause-few
positions_of-requires-clause-few c =
    let app : IsApp (app_with c.in_ok-settings.settings c.in_ok-settings.parts) =
    rw c.in_ok-settings.ensures.told (is_app c.args.chip.now (table_view c.args.root.now)
    c.judged_parts.ensures.chip c.requires.range c.requires.apart c.requires.known
    c.in_ok-settings.ensures.within) in
    rw c.deref.ensures.value app.connections

pub positions_of-requires-clause-joined : goal.positions_of-requires-clause-joined
positions_of-requires-clause-joined c =
    let app : IsApp (app_with c.in_ok-settings.settings c.in_ok-settings.parts) =
    rw c.in_ok-settings.ensures.told (is_app c.args.chip.now (table_view c.args.root.now)
    c.judged_parts.ensures.chip c.requires.range c.requires.apart c.requires.known
    c.in_ok-settings.ensures.within) in
    let long = c.in_ok-settings.parts.cores.ok in
    let size : length c.in_ok-settings.parts.cores.items ≡ c.in_ok-settings.parts.cores.len =
    omega arith in
    rw (c.deref.ensures.value, c.len.ensures) (subst (λ (n : ℕ).
    All (IsConnection n) c.in_ok-settings.parts.connections.items) size app.joined)

-- What every rule keeps is an application.
pub new-requires-clause-app : goal.new-requires-clause-app
new-requires-clause-app c =
    rw c.in_ok-settings.ensures.told (is_app c.args.chip.now (table_view c.args.root.now)
    c.judged_parts.ensures.chip c.requires.range c.requires.apart c.requires.known
    c.in_ok-settings.ensures.within)

-- The names are those of its parts.
pub new-requires-clause-names : goal.new-requires-clause-names
new-requires-clause-names c = rw (
  ap (λ app. app.cores) c.in_ok-settings.ensures.told,
  ap (λ app. app.connections) c.in_ok-settings.ensures.told,
  ap (λ app. app.uses) c.in_ok-settings.ensures.told,
  c.requires.names.cores,
  c.requires.names.connections,
  c.requires.names.uses,
) (are_names c.args.chip.now (table_view c.args.root.now))

-- It is one for the chip.
pub returns-clause-chip : goal.returns-clause-chip
returns-clause-chip c =
    rw (c.new.ensures, c.in_ok-settings.ensures.told)
    (is_app_of c.args.chip.now (table_view c.args.root.now) c.in_ok-settings.ensures.within)
