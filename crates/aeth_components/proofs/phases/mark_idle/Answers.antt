use Rattle.aeth_components.{proofs.MarkLemmas.AreMarked-read, specs.Busy.IsChannelIdle}
use Rattle.aeth_components.proofs.phases.mark_idle.Goals as goal

-- The channel is idle.
pub returns-then-channel_state-3 : goal.returns-then-channel_state-3
returns-then-channel_state-3 c =
    AreMarked-read IsChannelIdle c.args.busy.now c.unmark.new.self c.args.channel_states.now
    c.args.number _
    c.requires.number
    (record {
      enqueued = c.if-channel_state-3.true;
      landed = c.if-channel_state.true;
      taken =
          c.if-channel_state-2.true;
    })
    c.unmark.ensures.room c.unmark.ensures.away c.requires.marked
