use Rattle.std.proofs.Common.{◌∙◌, ap, slice_get, subst, sym}
use Rattle.std.proofs.lemmas.Option.{get_or_from_slice_get}
use Rattle.aeth_components.specs.declared.channel_state.ChannelState.{ChannelState}
use Rattle.aeth_stimuli.specs.Stimuli.{Take}
use Rattle.aeth_network.specs.Next.{AsksIn}
use Rattle.aeth_network.proofs.{AskerLemmas.asker-at, KnownFirsts.known-fewer, KnownFirsts.known-of}
use Rattle.aeth_network.proofs.next.next_by_row.Goals as goal

-- The cycle of the channel.
pub returns-then-number-channel_states : goal.returns-then-number-channel_states
returns-then-number-channel_states c =
    let channel_states = c.args.channel_states.now in
    let takes = c.args.takes.now in
    let place = c.args.place in
    let number = c.row.inside.number in
    let is = ap (λ (one : Take). one.number) c.row.view_is in
    known-fewer (λ t since less asked. subst
    (λ (channel_state : ChannelState). AsksIn channel_state number takes place t)
    (sym (get_or_from_slice_get channel_states number asked.channel_state _
    (ap (slice_get channel_states) is ∙ asked.at)))
    (subst (λ n. AsksIn asked.channel_state n takes place t) (sym is) asked.asks))
    (known-of (λ t. asker-at channel_states takes place number t _ c.if-number-channel_states.true)
    c.next_asking.ensures)
