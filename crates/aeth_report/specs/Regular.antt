-- Regular logs: those that have a text.
--
--   IsOrdered      what holds of a session's counts
--   offered_in, landings_in      sums over a channel
--   IsRegular      a log that is regular for an application
-- This project's own.
use Rattle.std.proofs.Common.{◌≡◌, ◌≤◌, ℕ, All, length, map, sum, sum_by}
use Rattle.aeth_app.specs.App.{AppData}
use Rattle.aeth_report.specs.{Channels.channels_of, Limits.max_total, Log.ChannelData, Log.LogData}
use Rattle.aeth_report.specs.{Log.SessionData}

-- A session has landed no more words than were offered, and its receiver has taken no more than have
-- landed.
pub record IsOrdered (session : SessionData) : Type 0 where
  pub takes : session.taken ≤ session.landed
  pub lands : session.landed ≤ session.offered

-- The words that were offered in the sessions of a channel.
abbrev pub offered_in : ChannelData → ℕ
offered_in one = sum_by (λ session. session.offered) one.sessions

-- The landings of the sessions of a channel.
abbrev pub landings_in : ChannelData → ℕ
landings_in one = sum_by (λ session. length session.rows) one.sessions

-- A log is regular for an application: its channels are those of the application in their order, the
-- counts of each session are in order, and the sums over the whole log are numbers of 32 bits.
pub record IsRegular (app : AppData) (log : LogData) : Type 0 where
  pub channels : map (λ one. one.channel) log.channels ≡ channels_of (length app.connections)
  pub ordered : All (λ one. All IsOrdered one.sessions) log.channels
  pub offered : sum_by offered_in log.channels ≤ max_total
  pub outside : sum_by (λ one. one.outside) log.channels ≤ max_total
  pub landings : sum_by landings_in log.channels ≤ max_total
  pub flits : sum log.flits ≤ max_total
