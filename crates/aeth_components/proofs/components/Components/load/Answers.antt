use Rattle.std.proofs.Common.{ap, arith, length}
use Rattle.std.proofs.lemmas.List.{length-map, Elements.All-set}
use Rattle.aeth_components.proofs.WaitingLemmas.{AreEnqueuing-marked}
use Rattle.aeth_components.specs.{Components.ComponentsState, ChannelStates.IsChannelState}
use Rattle.aeth_components.specs.{Seen.seen}
use Rattle.aeth_components.proofs.components.Components.load.Goals as goal

-- The channel has a mark.
pub mark-requires : goal.mark-requires
mark-requires c =
    let channel = c.requires.channel in
    let size = ap (λ (all : ComponentsState). length all.channel_states) c.self.view_is in
    let room = c.self.invariant.3.room in
    omega (arith, channel, size, room)

-- What holds of components still holds.
pub invariant_of-self : goal.invariant_of-self
invariant_of-self c =
    let all = c.self.inside in
    let state = c.self.invariant.0 in
    let P = IsChannelState (length all.channels.words) (length all.parts.items) in
    let sound : P c.args.channel_state =
    rw (← length-map all.parts.items (seen all.wires))
    (rw (← c.self.view_is) at c.requires.channel_state) in
    rw c.load.ensures (
      record {
        wired = state.wired;
        channel_states =
            All-set P all.channels.channel_states c.args.channel c.args.channel_state sound
            state.channel_states;
        landings = state.landings;
        flits = state.flits;
        few = state.few;
      },
      c.self.invariant.1,
      c.self.invariant.2,
      AreEnqueuing-marked all.parts.items all.channels.channel_states c.args.channel
          c.args.channel_state all.enqueuing
          c.mark.new.self c.mark.ensures.room c.mark.ensures.here c.mark.ensures.away
          c.self.invariant.3,
    )
