use Rattle.aeth_router.proofs.part.PartClocked.rests_latch.Goals as goal

-- The wires of an interface are wires.
pub rests_latch-requires : goal.rests_latch-requires
rests_latch-requires c = rw c.in-Interface.is at c.requires

-- So are those of a router.
pub rests_latch-requires-in-Router : goal.rests_latch-requires-in-Router
rests_latch-requires-in-Router c = rw c.in-Router.is at c.requires

-- So are those of a router with a table.
pub rests_latch-requires-in-TableRouter : goal.rests_latch-requires-in-TableRouter
rests_latch-requires-in-TableRouter c = rw c.in-TableRouter.is at c.requires

-- So are those of a stage.
pub rests_latch-requires-in-Stage : goal.rests_latch-requires-in-Stage
rests_latch-requires-in-Stage c = rw c.in-Stage.is at c.requires
