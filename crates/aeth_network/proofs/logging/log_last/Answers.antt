use Rattle.std.proofs.Common.{◌∙◌, ap, arith, get_or}
use Rattle.std.proofs.lemmas.List.{get_or_default}
use Rattle.aeth_components.specs.declared.channel_state.ChannelState.{ChannelState}
use Rattle.aeth_stimuli.specs.Loaded.{no_channel_state}
use Rattle.aeth_network.specs.Logging.{ended_with, last_by}
use Rattle.aeth_network.proofs.{ByNumberLemmas.each-next, ChannelStates.empty}
use Rattle.aeth_network.proofs.logging.log_last.Goals as goal

-- One channel more is logged.
pub loop-number-preserved : goal.loop-number-preserved
loop-number-preserved c =
    let number = c.loop-number.number in
    let channels = c.loop-number.channels in
    let default = c.index-channels-number.result in
    let cycles = c.args.cycles in
    let landings = c.args.landings.now in
    let gone = c.args.gone.now in
    let channel_states = c.args.channel_states.now in
    let outside = c.args.outside.now in
    let there = c.loop-number-test.true in
    let as_many = c.requires.channels in
    each-next (last_by cycles landings gone channel_states outside) c.args.channels.now channels
    number
    default c.log_channel.new.channel there c.loop-number.invariant
    (c.log_channel.ensures
    ∙ ap (λ (channel_state : ChannelState). ended_with cycles landings (get_or gone number 0)
    channel_state
    (get_or outside number 0) (get_or channels number default))
    (get_or_default channel_states number empty no_channel_state (omega (arith, there, as_many))))
