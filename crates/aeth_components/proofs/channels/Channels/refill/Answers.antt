use Rattle.std.proofs.Common.{◌≡◌, ◌≤◌, ◌<◌, ◌+◌, ◌∙◌, ℕ, List, arith, length, refl}
use Rattle.aeth_base.specs.Marks.{bit_of}
use Rattle.aeth_components.proofs.FullLemmas.{refilled-rests}
use Rattle.aeth_components.proofs.SkipLemmas.{HaveTurned-all, HaveTurned-first, HaveTurned-wirings}
use Rattle.aeth_components.proofs.SkipLemmas.{HaveTurned-next, HaveTurned-sound}
use Rattle.aeth_components.proofs.TurnLemmas.{IsChannelState-refilled, wirings-refilled}
use Rattle.aeth_components.specs.{Channels.AreStill, Enqueuing.AreEnqueuing, Phases.Moment}
use Rattle.aeth_components.specs.{Phases.refilled, declared.enqueuing.Enqueuing.Enqueuing}
use Rattle.aeth_components.proofs.channels.Channels.refill.Goals as goal

-- Channels that aren't marked are left alone.
still : (words : List ℕ) (cycle : ℕ) (now : Moment) (enqueuing : Enqueuing) (from to : ℕ)
    → AreEnqueuing now.parts now.channel_states enqueuing
    → ((number : ℕ) → from ≤ number → number < to → bit_of enqueuing.marks number ≡ 0)
    → AreStill (λ channel_state. refilled words cycle now.parts channel_state
    ≡ (now.parts, channel_state)) now.channel_states from to
still words cycle now enqueuing from to are none =
    λ number channel_state since below at. refilled-rests words cycle now.parts enqueuing number
    channel_state
    (are.rests number channel_state at (none number since below))

-- The channels before the first one that is marked enqueue nothing.
pub turns-init : goal.turns-init
turns-init c =
    let next = c.next_enqueuing-number.ensures in
    record {
      turns = HaveTurned-first next.end (still c.args.self.now.words c.args.cycle
          (record { parts = c.args.parts.now; channel_states = c.args.self.now.channel_states })
          c.args.enqueuing.now 0
          c.next_enqueuing-number.result c.requires.enqueuing next.none);
      words = refl;
      within = next.end;
      enqueuing = c.requires.enqueuing;
      injecting = c.requires.injecting;
      marked = next.found;
    }

-- What holds of each channel before the first turn, still holds.
pub refill_one-requires-clause-channel_states : goal.refill_one-requires-clause-channel_states
refill_one-requires-clause-channel_states c =
    rw (c.turns.invariant.words, c.turns.auto.parts) (HaveTurned-sound c.turns.invariant.turns
    (IsChannelState-refilled c.args.self.now.words c.args.cycle (length c.args.parts.now))
    c.requires.channel_states)

-- One channel more has had its turn, and those up to the next one that is marked enqueue nothing.
pub turns-preserved : goal.turns-preserved
turns-preserved c =
    let done = c.refill_one.new in
    let next = c.next_enqueuing-number-in-turns.ensures in
    record {
      turns = HaveTurned-next c.turns.invariant.turns
          (rw c.turns.invariant.words at c.refill_one.ensures.turn) next.from next.end
          (still c.args.self.now.words c.args.cycle
          (record { parts = done.parts; channel_states = done.self.channel_states }) done.enqueuing
          (c.turns.number + 1)
          c.next_enqueuing-number-in-turns.result c.refill_one.ensures.enqueuing next.none);
      words = c.refill_one.ensures.words ∙ c.turns.invariant.words;
      within = next.end;
      enqueuing = c.refill_one.ensures.enqueuing;
      injecting = c.refill_one.ensures.injecting;
      marked = next.found;
    }

-- All have.
pub returns-clause-turns : goal.returns-clause-turns
returns-clause-turns c =
    HaveTurned-all c.turns.invariant.turns (omega (arith, c.turns-test.false, c.len.ensures))

pub returns-clause-channel_states : goal.returns-clause-channel_states
returns-clause-channel_states c =
    rw (c.turns.invariant.words, c.turns.auto.parts) (HaveTurned-sound c.turns.invariant.turns
    (IsChannelState-refilled c.args.self.now.words c.args.cycle (length c.args.parts.now))
    c.requires.channel_states)

-- The wirings stay.
pub returns-clause-wirings : goal.returns-clause-wirings
returns-clause-wirings c =
    HaveTurned-wirings c.turns.invariant.turns (wirings-refilled c.args.self.now.words c.args.cycle)
