use Rattle.std.proofs.Common.{◌≡◌, ◌+◌, ◌∙◌, ℕ, arith, length, refl}
use Rattle.aeth_components.proofs.SkipLemmas.{HaveTurned-all, HaveTurned-first, HaveTurned-wirings}
use Rattle.aeth_components.proofs.SkipLemmas.{HaveTurned-next, HaveTurned-sound}
use Rattle.aeth_components.proofs.TurnLemmas.{IsChannelState-pulled, wirings-pulled, pulled-none}
use Rattle.aeth_components.specs.{Busy.TakesNothing, Channels.AreStill, Phases.Moment}
use Rattle.aeth_components.specs.{Phases.pulled}
use Rattle.aeth_components.proofs.channels.Channels.take.Goals as goal

-- Channels whose receivers take nothing are left alone.
still : (cycle : ℕ) (now : Moment) (from to : ℕ) → AreStill TakesNothing now.channel_states from to
    → AreStill (λ channel_state. pulled cycle now.parts channel_state ≡ (now.parts, channel_state))
    now.channel_states from to
still cycle now from to none =
    λ number channel_state since below at. pulled-none cycle now.parts channel_state
    (none number channel_state since below at)

-- The receivers of the channels before the first one that is marked take nothing.
pub turns-init : goal.turns-init
turns-init c =
    let next = c.next_taking-number.ensures in
    record {
      turns = HaveTurned-first next.end (still c.args.cycle
          (record { parts = c.args.parts.now; channel_states = c.args.self.now.channel_states }) 0
          c.next_taking-number.result next.still);
      words = refl;
      within = next.end;
      injecting = c.requires.injecting;
    }

-- What holds of each channel before the first turn, still holds.
pub take_one-requires-clause-channel_states : goal.take_one-requires-clause-channel_states
take_one-requires-clause-channel_states c =
    rw (c.turns.invariant.words, c.turns.auto.parts) (HaveTurned-sound c.turns.invariant.turns
    (IsChannelState-pulled (length c.args.self.now.words) c.args.cycle (length c.args.parts.now))
    c.requires.channel_states)

-- One channel more has had its turn, and the receivers of those up to the next one that is
-- marked take nothing.
pub turns-preserved : goal.turns-preserved
turns-preserved c =
    let next = c.next_taking-number-in-turns.ensures in
    record {
      turns = HaveTurned-next c.turns.invariant.turns c.take_one.ensures.turn next.from next.end
          (still c.args.cycle
          (record {
            parts = c.take_one.new.parts;
            channel_states =
                c.take_one.new.self.channel_states;
          })
          (c.turns.number + 1) c.next_taking-number-in-turns.result next.still);
      words = c.take_one.ensures.words ∙ c.turns.invariant.words;
      within = next.end;
      injecting = c.take_one.ensures.injecting;
    }

-- All have.
pub returns-clause-turns : goal.returns-clause-turns
returns-clause-turns c =
    HaveTurned-all c.turns.invariant.turns (omega (arith, c.turns-test.false, c.len.ensures))

pub returns-clause-channel_states : goal.returns-clause-channel_states
returns-clause-channel_states c =
    rw (c.turns.invariant.words, c.turns.auto.parts) (HaveTurned-sound c.turns.invariant.turns
    (IsChannelState-pulled (length c.args.self.now.words) c.args.cycle (length c.args.parts.now))
    c.requires.channel_states)

-- The wirings stay.
pub returns-clause-wirings : goal.returns-clause-wirings
returns-clause-wirings c = HaveTurned-wirings c.turns.invariant.turns (wirings-pulled c.args.cycle)
