use Rattle.std.proofs.Common.{ℕ, ◌+◌, arith, inr, length, refl, List}
use Rattle.std.proofs.lemmas.Option.{slice_get_within}
use Rattle.std.specs.List.{range_with_len}
use Rattle.aeth_components.proofs.TurnLemmas.{wirings-pulled, wirings-refilled, pulled-closed}
use Rattle.aeth_components.proofs.TurnLemmas.{pulled-open, refilled-closed, refilled-open}
use Rattle.aeth_components.proofs.TurnsAlone.{Done-turns, Stays-turns, kept-turns}
use Rattle.aeth_components.specs.{Alone.Acts, ChannelStates.is_open, Phases.asked_of}
use Rattle.aeth_components.specs.{Phases.left_of, Phases.pulled, Phases.refilled, Queues.dequeued}
use Rattle.aeth_components.specs.{Queues.dequeues, Queues.filled, Queues.fits}
use Rattle.aeth_components.proofs.laws.turns_are_taken_alone.Goals as goal

-- Refilling acts on the sender's queue.
acts-refilled : (words : List ℕ) (cycle : ℕ)
    → Acts (refilled words cycle) (λ s. is_open s cycle) (λ s. s.sender)
    (λ s. filled (left_of words s)) (λ s. fits (left_of words s))
    (λ s n. record s { enqueued = s.enqueued + n })
acts-refilled words cycle = record {
  acts = λ parts channel_state opened. refilled-open words cycle parts channel_state opened;
  rests = λ parts channel_state closed. refilled-closed words cycle parts channel_state closed;
  keeps_active = λ channel_state n. refl;
  keeps_end = λ channel_state n. refl;
  keeps_wirings = wirings-refilled words cycle;
}

-- Taking acts on the receiver's queue.
acts-pulled : (cycle : ℕ)
    → Acts (pulled cycle) (λ s. is_open s cycle) (λ s. s.receiver) (λ s. dequeued (asked_of s))
    (λ s. dequeues (asked_of s)) (λ s n. record s { taken = s.taken + n })
acts-pulled cycle = record {
  acts = λ parts channel_state opened. pulled-open cycle parts channel_state opened;
  rests = λ parts channel_state closed. pulled-closed cycle parts channel_state closed;
  keeps_active = λ channel_state n. refl;
  keeps_end = λ channel_state n. refl;
  keeps_wirings = wirings-pulled cycle;
}

-- Each alone.
pub returns-clause-refilling : goal.returns-clause-refilling
returns-clause-refilling c = λ words cycle moment. record {
  own = λ number channel_state at opened has alone.
      Done-turns (acts-refilled words cycle) (length moment.channel_states) 0 moment number
      channel_state (omega arith)
      (omega (arith, slice_get_within moment.channel_states number channel_state at)) at opened has
      alone;
  closed = kept-turns (acts-refilled words cycle) (range_with_len 0 (length moment.channel_states))
      moment;
  other = λ ni queue alone.
      Stays-turns (acts-refilled words cycle) (length moment.channel_states) 0 moment
      (length moment.channel_states) ni
      queue (inr (omega arith)) alone;
}

pub returns-clause-taking : goal.returns-clause-taking
returns-clause-taking c = λ cycle moment. record {
  own = λ number channel_state at opened has alone.
      Done-turns (acts-pulled cycle) (length moment.channel_states) 0 moment number channel_state
      (omega arith)
      (omega (arith, slice_get_within moment.channel_states number channel_state at)) at opened has
      alone;
  closed = kept-turns (acts-pulled cycle) (range_with_len 0 (length moment.channel_states)) moment;
  other = λ ni queue alone.
      Stays-turns (acts-pulled cycle) (length moment.channel_states) 0 moment
      (length moment.channel_states) ni queue
      (inr (omega arith)) alone;
}
