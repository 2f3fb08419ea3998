use Rattle.std.proofs.Common.{◌≡◌, ◌≤◌, ◌<◌, ℕ, List, Some, arith, inl, inr, length, slice_get}
use Rattle.std.proofs.Common.{subst}
use Rattle.std.proofs.lemmas.Option.{slice_get_within}
use Rattle.aeth_components.specs.Busy.{TakesNothing}
use Rattle.aeth_components.specs.declared.channel_state.ChannelState.{ChannelState}
use Rattle.aeth_stimuli.specs.Stimuli.{Take}
use Rattle.aeth_network.specs.Next.{HasAsker, HasTaker, IsFirstKnown}
use Rattle.aeth_network.proofs.AskerLemmas.{IsTaker, asker-at}
use Rattle.aeth_network.proofs.KnownFirsts.{HasSeen, known-fewer, known-more, known-none, known-of}
use Rattle.aeth_network.proofs.next.next_by_pulls.Goals as goal

-- Of a channel whose receiver takes nothing as it stands no word is taken so.
never : (takes : List Take) (place number t : ℕ) (channel_state : ChannelState)
    → TakesNothing channel_state
    → IsTaker takes place number channel_state t → ⊥
never takes place number t channel_state none has =
    let waits = has.1.waits in
    elim none [
      | inl taken ↦ omega arith
      | inr nothing ↦ omega arith
    ]

-- The first cycle is that of all channels, where none is left or no cycle is.
all-asked : (channel_states own : List ChannelState) (takes : List Take)
    (place time to next number : ℕ) → own ≡ channel_states
    → IsFirstKnown (HasSeen (IsTaker takes place) own number) (HasAsker own takes place) time to next
    → (time < next → length own ≤ number)
    → IsFirstKnown (HasTaker channel_states takes place) (HasAsker channel_states takes place) time
    to next
all-asked channel_states own takes place time to next number same first end =
    subst (λ (list : List ChannelState). IsFirstKnown (HasTaker list takes place)
    (HasAsker list takes place)
    time to next) same (known-fewer (λ t since less has.
    let inside = slice_get_within own has.number has.channel_state has.at in
    let past = end (omega arith) in
    record {
      number = has.number;
      item = has.channel_state;
      less = omega arith;
      at = has.at;
      has = (has.some, has.asks);
    }) first)

-- Before the first channel whose receiver may take none does.
pub channels-init : goal.channels-init
channels-init c = known-none c.requires.to (λ t since early seen.
    never c.args.takes.now c.args.place seen.number t seen.item
    (c.next_taking-number.ensures.still seen.number seen.item (omega arith) seen.less
    (subst (λ (channel_states : List ChannelState). slice_get channel_states seen.number
    ≡ Some seen.item)
    c.channel_states-channel_states.ensures seen.at)) seen.has)

-- Those up to the next whose receiver may take, up to the first cycle of those before them.
pub channels-preserved : goal.channels-preserved
channels-preserved c =
    let takes = c.args.takes.now in
    let place = c.args.place in
    known-more c.next_taking-number-in-channels.result _
    (λ number t channel_state behind less at. never takes place number t channel_state
    (c.next_taking-number-in-channels.ensures.still number channel_state (omega arith) less
    (subst (λ (channel_states : List ChannelState). slice_get channel_states number
    ≡ Some channel_state) c.channel_states-channel_states.ensures at)))
    (λ t has. has.1) c.channels.invariant
    (known-of (λ t. asker-at c.channel_states-channel_states.result.now takes place
    c.channels.number t _
    c.channels-test.true) c.next_asking-next.ensures)

-- No channel is.
pub returns-after-channels : goal.returns-after-channels
returns-after-channels c =
    all-asked c.args.components.now.channel_states _ c.args.takes.now c.args.place c.args.time
    c.args.to
    c.channels.next c.channels.number c.channel_states-channel_states.ensures c.channels.invariant
    (λ some. c.channels-test.false)
