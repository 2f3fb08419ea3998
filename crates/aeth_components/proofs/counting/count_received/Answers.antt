use Rattle.std.proofs.Common.{ℕ, ◌≡◌, ◌≢◌, ◌==◌, ◌∙◌, refl, sym, true, Some, slice_get, length}
use Rattle.std.proofs.Common.{eq-eqb}
use Rattle.std.proofs.lemmas.Option.{slice_get_read}
use Rattle.aeth_components.specs.{declared.channel_state.ChannelState.ChannelState}
use Rattle.aeth_components.specs.{Channels.OfChannelState, Counting.brings}
use Rattle.aeth_components.proofs.AmongLemmas.{brings-other, counts-one, counts-still, notes-one}
use Rattle.aeth_components.proofs.AmongLemmas.{notes-still}
use Rattle.aeth_components.proofs.counting.count_received.Goals.{In-Some, In_default}
use Rattle.aeth_components.proofs.counting.count_received.Goals as goal

-- No words came to another channel at the interface.
others : (c : goal.In-Some) → (k : ℕ) (channel_state : ChannelState) → k ≢ c.in-Some.channel
    → slice_get c.args.channel_states.now k ≡ Some channel_state
    → (channel_state.receiver.ni.0 == c.args.number) ≡ true
    → brings c.args.parts.now channel_state ≡ 0
others c k channel_state apart =
    let parts = c.args.parts.now in
    let part = c.index-parts-number.result in
    brings-other parts (length c.args.landings.now) c.args.channel_states.now c.args.number part
    c.channel_of.result c.requires.channel_states
    (slice_get_read parts (length parts) c.args.number part refl c.requires.number
    c.index-parts-number.is)
    c.channel_of.ensures.own k channel_state
    (λ is. let same : Some c.in-Some.channel ≡ Some k = sym c.in-Some.is ∙ is in apart (cc same))

-- The one that is found is counted.
own : (c : goal.In-Some) → OfChannelState c.args.channel_states.now c.in-Some.channel
    (λ channel_state. (channel_state.receiver.ni.0 == c.args.number) ≡ true)
own c channel_state at =
    eq-eqb channel_state.receiver.ni.0 c.args.number (c.in-Some.ensures.at channel_state at)

pub returns-in-Some-clause-channel_states : goal.returns-in-Some-clause-channel_states
returns-in-Some-clause-channel_states c =
    let some = (goal.at.returns-in-Some-clause-channel_states c).In-Some in
    c.count_at.ensures.channel_states
    ∙ counts-one c.args.cycle c.args.parts.now (λ i. i == c.args.number) c.args.channel_states.now
    c.in-Some.channel (own some) (others some)

pub returns-in-Some-clause-landings : goal.returns-in-Some-clause-landings
returns-in-Some-clause-landings c =
    let some = (goal.at.returns-in-Some-clause-landings c).In-Some in
    notes-one c.args.cycle c.args.parts.now (λ i. i == c.args.number) c.args.channel_states.now
    c.in-Some.channel c.args.landings.now c.count_at.new.landings c.in-Some.ensures.within
    (own some) c.count_at.ensures.landings (others some)

-- Where none is found, no words came to any.
none : (c : goal.In_default) → (k : ℕ) (channel_state : ChannelState)
    → slice_get c.args.channel_states.now k ≡ Some channel_state
    → (channel_state.receiver.ni.0 == c.args.number) ≡ true
    → brings c.args.parts.now channel_state ≡ 0
none c k channel_state =
    let parts = c.args.parts.now in
    let part = c.index-parts-number.result in
    brings-other parts (length c.args.landings.now) c.args.channel_states.now c.args.number part
    c.channel_of.result c.requires.channel_states
    (slice_get_read parts (length parts) c.args.number part refl c.requires.number
    c.index-parts-number.is)
    c.channel_of.ensures.own k channel_state (λ is. cc is)

pub returns-in_default-clause-channel_states : goal.returns-in_default-clause-channel_states
returns-in_default-clause-channel_states c =
    counts-still c.args.cycle c.args.parts.now (λ i. i == c.args.number) c.args.channel_states.now
    (none (goal.at.returns-in_default-clause-channel_states c).In_default)

pub returns-in_default-clause-landings : goal.returns-in_default-clause-landings
returns-in_default-clause-landings c =
    notes-still c.args.cycle c.args.parts.now (λ i. i == c.args.number) c.args.channel_states.now
    c.args.landings.now (none (goal.at.returns-in_default-clause-landings c).In_default)
