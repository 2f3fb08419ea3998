-- As many names as there are cores and connections.
use Rattle.std.proofs.{Common.◌≡◌, Common.length, lemmas.List.length-map}
use Rattle.aeth_app.specs.App.{AppData}
use Rattle.aeth_plan.specs.Plan.{connection_names, core_names}

-- There are as many names as cores.
pub length-core_names : (app : AppData) → length (core_names app) ≡ length app.cores
unfolding core_names
length-core_names app = length-map app.cores (λ core. core.name)

-- There are as many names as connections.
pub length-connection_names : (app : AppData)
    → length (connection_names app) ≡ length app.connections
length-connection_names app = length-map app.connections (λ connection. connection.name)
