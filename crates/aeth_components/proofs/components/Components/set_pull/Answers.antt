use Rattle.std.proofs.Common.{◌∙◌, List, ap, get_or, set}
use Rattle.aeth_components.specs.declared.channel_state.ChannelState.{ChannelState}
use Rattle.aeth_components.specs.Components.{ComponentsState}
use Rattle.aeth_components.proofs.ChannelStateLemmas.{set-with_channel_state}
use Rattle.aeth_components.proofs.components.Components.set_pull.Goals as goal

-- The channel has changed.
pub returns : goal.returns
returns c =
    let channel = c.args.channel in
    c.load.ensures
    ∙ ap (λ (channel_states : List ChannelState).
    record c.args.self.now { channel_states = channel_states })
    (ap (λ (channel_states : List ChannelState). set c.args.self.now.channel_states channel
    (record (get_or channel_states channel _) { pull = c.args.pull }))
    (c.channel_states.ensures ∙ ap (λ (all : ComponentsState). all.channel_states) c.self.view_is)
    ∙ set-with_channel_state c.args.self.now.channel_states channel
    (λ now. record now { pull = c.args.pull }) _
    c.requires)
