use Rattle.std.proofs.Common.{refl}
use Rattle.aeth_router.specs.declared.part.Part.TheVariants.{Interface, Router, TableRouter}
use Rattle.aeth_router.proofs.RestingLemmas.{drives-among}
use Rattle.aeth_router.proofs.part.PartClocked.rests_drive.Goals as goal

-- The wires of an interface are wires.
pub rests_drive-requires : goal.rests_drive-requires
rests_drive-requires c = rw c.in-Interface.is at c.requires

-- So are those of a router.
pub rests_drive-requires-in-Router : goal.rests_drive-requires-in-Router
rests_drive-requires-in-Router c = rw c.in-Router.is at c.requires

-- So are those of a router with a table.
pub rests_drive-requires-in-TableRouter : goal.rests_drive-requires-in-TableRouter
rests_drive-requires-in-TableRouter c = rw c.in-TableRouter.is at c.requires

-- So are those of a stage.
pub rests_drive-requires-in-Stage : goal.rests_drive-requires-in-Stage
rests_drive-requires-in-Stage c = rw c.in-Stage.is at c.requires

-- It rests as the component that it is.
pub returns-in-Interface : goal.returns-in-Interface
returns-in-Interface c =
    rw c.in-Interface.is (drives-among (λ ni. Interface ni) (λ some other same. cc) refl refl refl
    c.rests_drive.ensures)

pub returns-in-Router : goal.returns-in-Router
returns-in-Router c =
    rw c.in-Router.is (drives-among (λ router. Router router) (λ some other same. cc) refl refl refl
    c.rests_drive-in-Router.ensures)

pub returns-in-TableRouter : goal.returns-in-TableRouter
returns-in-TableRouter c =
    rw c.in-TableRouter.is (drives-among (λ router. TableRouter router) (λ some other same. cc) refl
    refl refl c.rests_drive-in-TableRouter.ensures)
