use Rattle.aeth_server.proofs.SlotServerLemmas.{sent-in-time, sent-in-turn, serves-at-rate}
use Rattle.aeth_server.proofs.laws.slot_server.Goals as goal

-- Each word is sent by its finish time.
pub returns-clause-in_time : goal.returns-clause-in_time
returns-clause-in_time c = sent-in-time

-- Each word of a busy period in its turn.
pub returns-clause-busy : goal.returns-clause-busy
returns-clause-busy c = sent-in-turn

-- And so, by every cycle, as many as the rate says.
pub returns-clause-at_rate : goal.returns-clause-at_rate
returns-clause-at_rate c = serves-at-rate
