use Rattle.aeth_router.proofs.part.PartClocked.drive.Goals as goal

-- The wires of an interface are wires.
pub drive-requires : goal.drive-requires
drive-requires c = rw c.in-Interface.is at c.requires

-- So are those of a router.
pub drive-requires-in-Router : goal.drive-requires-in-Router
drive-requires-in-Router c = rw c.in-Router.is at c.requires

-- So are those of a router with a table.
pub drive-requires-in-TableRouter : goal.drive-requires-in-TableRouter
drive-requires-in-TableRouter c = rw c.in-TableRouter.is at c.requires

-- So are those of a stage.
pub drive-requires-in-Stage : goal.drive-requires-in-Stage
drive-requires-in-Stage c = rw c.in-Stage.is at c.requires
