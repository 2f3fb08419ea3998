use Rattle.std.proofs.Common.{◌≡◌, ◌∙◌, ◌<◌, List, ap, arith, get_or, length}
use Rattle.aeth_components.specs.declared.channel_state.ChannelState.{ChannelState}
use Rattle.aeth_stimuli.specs.Stimuli.{Offer}
use Rattle.aeth_network.proofs.ChannelStates.{empty, offered-one}
use Rattle.aeth_network.proofs.giving.offer_one.Goals as goal

-- The session of its channel accepts it.
pub returns-then-time-untils-clause-components : goal.returns-then-time-untils-clause-components
returns-then-time-untils-clause-components c =
    let old = c.args.components.now in
    let number = c.offer.inside.number in
    let same : number ≡ c.args.offer.now.number = ap (λ (one : Offer). one.number) c.offer.view_is in
    let there = c.requires.offer in
    let within : number < length old.channel_states = omega (arith, there, same) in
    c.accept.ensures
    ∙ ap (λ (channel_states : List ChannelState). record old { channel_states = channel_states })
    (offered-one c.args.time c.args.untils.now old.channel_states c.args.offer.now number
    (get_or c.channel_states.result.now number empty).accepted empty same within
    c.if-time-untils.true
    (ap (λ (channel_states : List ChannelState). (get_or channel_states number empty).accepted)
    c.channel_states.ensures))
