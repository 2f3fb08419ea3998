use Rattle.std.proofs.{Common.ap, Common.arith, Common.length, lemmas.List.Elements.All-set}
use Rattle.aeth_base.proofs.Members.{All-slice_get}
use Rattle.aeth_components.proofs.ChannelStateLemmas.{channel_state-within, with_channel_state-set}
use Rattle.aeth_components.proofs.WaitingLemmas.{AreEnqueuing-marked}
use Rattle.aeth_components.specs.{Components.ComponentsState, ChannelStates.IsChannelState}
use Rattle.aeth_components.specs.{declared.channel_state.ChannelState.ChannelState}
use Rattle.aeth_components.proofs.components.Components.accept.Goals as goal

-- The channel has a mark.
pub mark-requires : goal.mark-requires
mark-requires c =
    let channel = c.requires.channel in
    let size = ap (λ (all : ComponentsState). length all.channel_states) c.self.view_is in
    let room = c.self.invariant.3.room in
    omega (arith, channel, size, room)

-- What holds of components still holds.
pub invariant_of-self : goal.invariant_of-self
invariant_of-self c =
    let all = c.self.inside in
    let state = c.self.invariant.0 in
    let channel_states = all.channels.channel_states in
    let P = IsChannelState (length all.channels.words) (length all.parts.items) in
    let found = channel_state-within channel_states c.args.channel
    (rw (← c.self.view_is) at c.requires.channel) in
    let channel_state : ChannelState = found.0 in
    let before : P channel_state =
    All-slice_get P channel_states c.args.channel channel_state state.channel_states found.1 in
    let enqueued = rw (← c.self.view_is) at c.requires.enqueued in
    let now : ChannelState = record channel_state { accepted = c.args.accepted } in
    let accepts = rw found.1 at enqueued in
    let sound : P now = record {
      sender = before.sender;
      receiver = before.receiver;
      taken = before.taken;
      landed = before.landed;
      enqueued = accepts.0;
      within = accepts.1;
    } in
    rw (
      c.accept.ensures,
      with_channel_state-set channel_states c.args.channel
          (λ (now : ChannelState). record now { accepted = c.args.accepted }) channel_state
          found.1,
    ) (
      record {
        wired = state.wired;
        channel_states = All-set P channel_states c.args.channel now sound state.channel_states;
        landings = state.landings;
        flits = state.flits;
        few = state.few;
      },
      c.self.invariant.1,
      c.self.invariant.2,
      AreEnqueuing-marked all.parts.items channel_states c.args.channel now all.enqueuing
          c.mark.new.self c.mark.ensures.room c.mark.ensures.here c.mark.ensures.away
          c.self.invariant.3,
    )
