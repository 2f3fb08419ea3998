-- How far a network is in what it is given. Beside the cursors stand a cycle before which nothing comes but words, and
-- one before which nothing comes but words and events. So most busy cycles look at the words alone, those in which a
-- switch writes at these and the events, and both are found anew where something else came.
--
--   stimuli_with, routing_with      what a network is given, and by what its routers send on
--   AreInOrder      what is given comes in the order of cycles
--   IsCalmUntil      a cycle before which no row comes from places on but those of words and events
--   AreCursors      the places in the events, the sessions, the offered words, the receivers' rows, the
--       windows of switches, and the rows that enter tables
-- This project's own.
use Rattle.std.proofs.Common.{◌≡◌, ◌≤◌, ℕ, length}
use Rattle.std.specs.List.Sorted.{IsNonDecreasing, IsNonDecreasingBy}
use Rattle.aeth_stimuli.specs.Stimuli.{Stimuli}
use Rattle.aeth_running.specs.Routing.{Routing, later_rows}
use Rattle.aeth_network.specs.{Behind.passed, Routes.routing_in, Windows.AreOver}
use Rattle.aeth_network.specs.{declared.given.Cursors.Cursors, declared.given.Given.Given}

-- What a network is given.
abbrev pub stimuli_with : Given → Stimuli
stimuli_with given = record {
  schedule = given.schedule;
  offers = given.offers.items;
  takes = given.takes.items;
}

-- By what its routers send on.
abbrev pub routing_with : Given → Routing
routing_with given = routing_in given.tables

-- Each event has a cycle, and neither these nor those of sessions, words, receivers' rows and rows that
-- enter tables fall.
pub record AreInOrder (all : Stimuli) (routing : Routing) : Type 0 where
  pub event_cycles : length all.schedule.cycles ≡ length all.schedule.events
  pub events : IsNonDecreasing all.schedule.cycles
  pub session_starts : IsNonDecreasingBy (λ one. one.channel_state.go) all.schedule.session_starts
  pub offers : IsNonDecreasingBy (λ one. one.cycle) all.offers
  pub takes : IsNonDecreasingBy (λ one. one.cycle) all.takes
  pub enterings : IsNonDecreasingBy (λ one. one.cycle) (later_rows routing)

-- No row but those of words and events lies behind the places and before a cycle.
pub record IsCalmUntil (until : ℕ) (cursors : Cursors) (all : Stimuli) (routing : Routing) : Type 0
  where
    pub session_starts : passed (λ one. one.channel_state.go) until all.schedule.session_starts
        ≤ cursors.session_start
    pub takes : passed (λ one. one.cycle) until all.takes ≤ cursors.take
    pub enterings : passed (λ one. one.cycle) until (later_rows routing) ≤ cursors.entering

-- Each place is the number of rows that lie before a cycle; before that of the windows all are over. No
-- event lies behind them and before the one cycle that is noted, and no other row but those of words
-- before the other.
pub record AreCursors (cursors : Cursors) (time : ℕ) (all : Stimuli) (routing : Routing) : Type 0
  where
    pub event_is : cursors.event ≡ passed (λ cycle. cycle) time all.schedule.cycles
    pub session_start_is : cursors.session_start
        ≡ passed (λ one. one.channel_state.go) time all.schedule.session_starts
    pub offer_is : cursors.offer ≡ passed (λ one. one.cycle) time all.offers
    pub take_is : cursors.take ≡ passed (λ one. one.cycle) time all.takes
    pub window_is : AreOver cursors.window time all.schedule.windows
    pub entering_is : cursors.entering ≡ passed (λ one. one.cycle) time (later_rows routing)
    pub quiet : passed (λ cycle. cycle) cursors.quiet_until all.schedule.cycles ≤ cursors.event
    pub calm : IsCalmUntil cursors.calm_until cursors all routing
    pub sooner : cursors.quiet_until ≤ cursors.calm_until
