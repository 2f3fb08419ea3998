use Rattle.aeth_network.proofs.Playing.{played-left, played-same}
use Rattle.aeth_table_network.proofs.machine.TableNetworkMachine.play.Goals as goal

-- No cycle is left.
pub returns-clause-left : goal.returns-clause-left
returns-clause-left c =
    played-left c.args.self.now c.simulate_tables.new.network c.simulate_tables.ensures.played

-- The log is the same.
pub returns-clause-plays : goal.returns-clause-plays
returns-clause-plays c =
    played-same c.args.self.now c.simulate_tables.new.network c.simulate_tables.ensures.played
