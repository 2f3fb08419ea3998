use Rattle.std.proofs.Common.{◌∙◌, ◌<◌, List, ap, arith, get_or, length, set}
use Rattle.aeth_components.specs.ChannelStates.{with_channel_state}
use Rattle.aeth_components.specs.declared.channel_state.ChannelState.{ChannelState}
use Rattle.aeth_components.proofs.ChannelStateLemmas.{set-with_channel_state}
use Rattle.aeth_network.proofs.ChannelStates.{empty}
use Rattle.aeth_network.proofs.giving.start_one.Goals as goal

-- Its channel has changed.
pub returns-clause-components : goal.returns-clause-components
returns-clause-components c =
    let old = c.args.components.now in
    let session_start = c.args.session_start.now in
    let number = c.number_of-number.result in
    let change =
    λ (channel_state : ChannelState).
    record session_start.channel_state { pull = channel_state.pull } in
    let there = c.requires.session_start in
    let same = c.number_of-number.ensures in
    let within : number < length old.channel_states = omega (arith, there, same) in
    c.load.ensures
    ∙ ap (λ (channel_states : List ChannelState). record old { channel_states = channel_states })
    (ap (λ (channel_states : List ChannelState). set old.channel_states number
    (change (get_or channel_states number empty)))
    c.channel_states.ensures
    ∙ set-with_channel_state old.channel_states number change empty within
    ∙ ap (λ n. with_channel_state n change old.channel_states) same)
