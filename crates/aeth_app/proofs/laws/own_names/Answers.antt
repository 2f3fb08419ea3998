use Rattle.aeth_app.proofs.OwnNames.{own_place}
use Rattle.aeth_app.proofs.laws.own_names.Goals as goal

-- Names of an application differ.
pub returns-clause-cores : goal.returns-clause-cores
returns-clause-cores c = λ app is_app i core at.
    own_place (λ core. core.name) app.cores i core is_app.core_names at

pub returns-clause-connections : goal.returns-clause-connections
returns-clause-connections c = λ app is_app i connection at.
    own_place (λ connection. connection.name) app.connections i connection
    is_app.connection_names at

pub returns-clause-uses : goal.returns-clause-uses
returns-clause-uses c = λ app is_app i one at.
    own_place (λ one. one.name) app.uses i one is_app.use_names at
