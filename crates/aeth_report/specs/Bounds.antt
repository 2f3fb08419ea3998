-- What a log shows of a session: which landings its rows tell, and by when its words have one.
-- Due cycles: after the latency-rate server (Stiliadis and Varma, 1998), for whole words.
use Rattle.std.proofs.Common.{◌≡◌, ◌≤◌, ◌<◌, ℕ, ◌-◌, ◌*◌, Some, slice_get}
use Rattle.aeth_base.specs.declared.ids.Channel.{Channel}
use Rattle.aeth_server.specs.{Landing.LandsAt, Landing.due_time, PrivateServer.PrivateServer}
use Rattle.aeth_trace.specs.declared.words.WordRow.{WordRow}
use Rattle.aeth_report.specs.{declared.log.Landing.Landing, declared.session.Session.Session}
use Rattle.aeth_report.specs.{Flows.Run, Flows.server_of, Flows.words_in, Log.SessionData}
use Rattle.aeth_report.specs.{RunLog.due_of}

-- A row is the landing of the i-th word that a channel's session accepts: in the cycle in which it
-- lands on the private server, within the run and before the session finishes.
pub record IsLandingOf (run : Run) (channel : Channel) (session : Session) (i : ℕ) (row : Landing)
    : Type 0 where
  pub word : WordRow
  pub is : slice_get (words_in run channel session) (i - 1) ≡ Some word
  pub offered : row.offered ≡ word.cycle
  pub value : row.value ≡ word.value
  pub lands : LandsAt (server_of run channel session) i row.landed
  pub within : row.landed < run.cycles
  pub unfinished : row.landed < (server_of run channel session).finish
  pub due : row.due ≡ due_of (server_of run channel session) i

-- The i-th word of a session has a row in its log, and has landed by a cycle.
pub record IsLoggedBy (log : SessionData) (i by : ℕ) : Type 0 where
  pub row : Landing
  pub at : slice_get log.rows (i - 1) ≡ Some row
  pub lands : row.landed ≤ by

-- The i-th word of a session has a row in its log, and has landed in time: the rate times the cycle
-- is at most the due time. So it has landed by its due cycle, which is that time over the rate,
-- rounded up.
pub record IsLoggedInTime (server : PrivateServer) (log : SessionData) (i : ℕ) : Type 0 where
  pub row : Landing
  pub at : slice_get log.rows (i - 1) ≡ Some row
  pub early : server.shape.rate * row.landed ≤ due_time server i
  pub lands : row.landed ≤ due_of server i
