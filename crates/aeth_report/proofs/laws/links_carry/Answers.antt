use Rattle.std.proofs.Common.{◌≤◌, ◌<◌, subst}
use Rattle.aeth_report.specs.Flows.{Flow}
use Rattle.aeth_report.proofs.CarriesLemmas.{carries-few, carries-sole}
use Rattle.aeth_report.proofs.OneFlit.{carried-known, one_flit}
use Rattle.aeth_report.proofs.laws.links_carry.Goals as goal

-- A flit is on its way until its session is finished, and sessions with a common cycle are together.
pub returns-clause-one : goal.returns-clause-one
returns-clause-one c run sound l t = carries-few run l t (one_flit run sound l t)

pub returns-clause-alone : goal.returns-clause-alone
returns-clause-alone c run sound l t n i u flow carried =
    carries-sole run l t n i u flow carried
    (λ d j v other too. one_flit run sound l t d j v n i u other flow too carried)

pub returns-clause-goes : goal.returns-clause-goes
returns-clause-goes c run sound l t n i u flow carried =
    let known = carried-known run sound l t n i u flow carried in
    subst (λ (f : Flow). f.server.go ≤ t) known.of.is known.way.goes

pub returns-clause-unfinished : goal.returns-clause-unfinished
returns-clause-unfinished c run sound l t n i u flow carried =
    let known = carried-known run sound l t n i u flow carried in
    subst (λ (f : Flow). t < f.server.finish) known.of.is known.way.unfinished
