use Rattle.aeth_router.proofs.part.PartClocked.latch.Goals as goal

-- The wires of an interface are wires.
pub latch-requires : goal.latch-requires
latch-requires c = rw c.in-Interface.is at c.requires

-- So are those of a router.
pub latch-requires-in-Router : goal.latch-requires-in-Router
latch-requires-in-Router c = rw c.in-Router.is at c.requires

-- So are those of a router with a table.
pub latch-requires-in-TableRouter : goal.latch-requires-in-TableRouter
latch-requires-in-TableRouter c = rw c.in-TableRouter.is at c.requires

-- So are those of a stage.
pub latch-requires-in-Stage : goal.latch-requires-in-Stage
latch-requires-in-Stage c = rw c.in-Stage.is at c.requires
