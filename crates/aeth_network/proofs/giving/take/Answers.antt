use Rattle.std.proofs.Common.{◌≡◌, ◌∙◌, ◌<◌, ap, arith, length, subst, sym, take}
use Rattle.aeth_components.specs.Components.{ComponentsState}
use Rattle.aeth_stimuli.specs.Stimuli.{Take}
use Rattle.aeth_network.proofs.ChannelStateCounts.{length-taking}
use Rattle.aeth_network.proofs.giving.take.Goals as goal

-- There are as many channels as before.
pub take_one-requires : goal.take_one-requires
take_one-requires c =
    let within = c.requires c.loop-one.one-index c.one-item.result c.loop-one-test.true in
    let same : length c.loop-one.components.channel_states
    ≡ length c.args.components.now.channel_states =
    ap (λ (all : ComponentsState). length all.channel_states) c.loop-one.invariant
    ∙ length-taking (take c.loop-one.one-index c.args.takes.now)
    c.args.components.now.channel_states in
    subst (λ (one : Take). one.number < length c.loop-one.components.channel_states)
    (sym c.one-item.is)
    (omega (arith, within, same))
