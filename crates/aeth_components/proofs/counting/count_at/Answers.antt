use Rattle.std.proofs.{Common.◌∙◌, Common.ap, Common.set, lemmas.Option.get_or_from_slice_get}
use Rattle.aeth_components.proofs.ChannelStateLemmas.{set-with_channel_state}
use Rattle.aeth_components.proofs.MarkLemmas.{AreMarked-marked}
use Rattle.aeth_components.specs.Counting.{counted, noted}
use Rattle.aeth_components.proofs.counting.count_at.Goals as goal

-- The channel is counted.
pub returns-then-count_one-clause-channel_states : goal.returns-then-count_one-clause-channel_states
returns-then-count_one-clause-channel_states c =
    ap (set c.args.channel_states.now c.args.number) c.count_one.ensures.channel_state
    ∙ set-with_channel_state c.args.channel_states.now c.args.number
    (counted c.args.cycle c.args.parts.now) _
    c.requires.number

pub returns-else-count_one-clause-channel_states : goal.returns-else-count_one-clause-channel_states
returns-else-count_one-clause-channel_states c =
    ap (set c.args.channel_states.now c.args.number) c.count_one.ensures.channel_state
    ∙ set-with_channel_state c.args.channel_states.now c.args.number
    (counted c.args.cycle c.args.parts.now) _
    c.requires.number

-- And its landings are noted.
pub returns-then-count_one-clause-landings : goal.returns-then-count_one-clause-landings
returns-then-count_one-clause-landings c = λ channel_state at.
    c.count_one.ensures.landings
    ∙ ap (noted c.args.cycle c.args.parts.now c.args.landings.now)
    (get_or_from_slice_get c.args.channel_states.now c.args.number channel_state _ at)

pub returns-else-count_one-clause-landings : goal.returns-else-count_one-clause-landings
returns-else-count_one-clause-landings c = λ channel_state at.
    c.count_one.ensures.landings
    ∙ ap (noted c.args.cycle c.args.parts.now c.args.landings.now)
    (get_or_from_slice_get c.args.channel_states.now c.args.number channel_state _ at)

-- One of which words have landed is marked.
pub returns-then-count_one-clause-taking : goal.returns-then-count_one-clause-taking
returns-then-count_one-clause-taking c =
    AreMarked-marked c.args.taking.now c.mark.new.self c.args.channel_states.now c.args.number
    c.count_one.new.channel_state c.mark.ensures.room c.mark.ensures.here c.mark.ensures.away
    c.requires.taking
