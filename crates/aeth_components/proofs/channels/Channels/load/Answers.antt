use Rattle.std.proofs.Common.{ap, arith, length}
use Rattle.aeth_components.{specs.Channels.ChannelsState, proofs.MarkLemmas.AreMarked-marked}
use Rattle.aeth_components.proofs.channels.Channels.load.Goals as goal

-- The channel is marked.
pub invariant_of-self : goal.invariant_of-self
invariant_of-self c =
    let all = c.self.inside in
    let channel_states = all.channel_states.items in
    let size = ap (λ (all : ChannelsState). length all.channel_states) c.self.view_is in
    let number = c.requires in
    record {
      idle = AreMarked-marked all.busy c.mark.new.self channel_states c.args.number
          c.args.channel_state
          c.mark.ensures.room c.mark.ensures.here c.mark.ensures.away c.self.invariant.idle;
      takes = AreMarked-marked all.taking c.mark-2.new.self channel_states c.args.number
          c.args.channel_state
          c.mark-2.ensures.room c.mark-2.ensures.here c.mark-2.ensures.away
          c.self.invariant.takes;
      places = c.note.ensures channel_states c.self.invariant.places (omega (arith, size, number));
    }
