use Rattle.std.proofs.Common.{◌≡◌, ◌<◌, ◌+◌, ◌==◌, ◌∙◌, ap, arith, get_or, length, refl, slice_get}
use Rattle.std.proofs.Common.{Some, sym, eq-eqb, eqb-true}
use Rattle.std.proofs.lemmas.{Bool.false_from_ne_true, Option.get_or_from_slice_get}
use Rattle.aeth_components.proofs.channels.Channels.count_busy.Goals.{Joined-index-number}
use Rattle.aeth_components.proofs.channels.Channels.count_busy.Goals.{else-index-number}
use Rattle.aeth_components.proofs.channels.Channels.count_busy.Goals.{then-index-number}
use Rattle.aeth_components.proofs.CountedLemmas.{AreCounted, AreCounted-away, AreCounted-first}
use Rattle.aeth_components.proofs.CountedLemmas.{AreCounted-more, AreCounted-sound}
use Rattle.aeth_components.proofs.CountedLemmas.{AreCounted-until, counted-all, noted-all}
use Rattle.aeth_components.specs.Channels.{ChannelsState}
use Rattle.aeth_components.specs.declared.channel_state.ChannelState.{ChannelState}
use Rattle.aeth_components.proofs.channels.Channels.count_busy.Goals as goal

-- The channels before the first one that is marked are idle.
pub turns-init : goal.turns-init
turns-init c =
    let next = c.next_busy-channel.ensures in
    record {
      are = AreCounted-until AreCounted-first next.from next.end next.still;
      words = refl;
      within = next.end;
    }

-- The next channel is sound.
pub count_one-requires-clause-channel_state : goal.count_one-requires-clause-channel_state
count_one-requires-clause-channel_state c =
    AreCounted-sound c.turns.invariant.are (length c.turns.landings) (length c.args.parts.now)
    (omega (arith, c.turns-test.true, c.len.ensures))
    (rw c.turns.auto.landings c.requires.channel_states)

-- The channel that is read is the one at its place.
read : (c : Joined-index-number) (channel_state : ChannelState)
    → slice_get c.turns.self.channel_states c.turns.channel ≡ Some channel_state
    → c.index.result.now ≡ channel_state
read c channel_state at =
    c.index.ensures
    ∙ ap (λ (all : ChannelsState). get_or all.channel_states c.turns.channel c.index.result.now)
    c.self.view_is
    ∙ get_or_from_slice_get c.turns.self.channel_states c.turns.channel channel_state
    c.index.result.now at

-- One channel more is counted, if it is at the interface.
more : (c : Joined-index-number) → AreCounted (λ i. i == c.args.number) c.args.cycle c.args.parts.now
    c.args.self.now.channel_states c.args.landings.now c.if-index-number.self.channel_states
    c.if-index-number.landings
    (c.turns.channel + 1)
more c =
    let are = c.turns.invariant.are in
    let within : c.turns.channel < length c.turns.self.channel_states =
    omega (arith, c.turns-test.true, c.len.ensures) in
    elim c.if-index-number.branch [
      | then-index-number w ↦
          rw (w.self-is, w.landings-is) (AreCounted-more are within
          (λ channel_state at. eq-eqb channel_state.receiver.ni.0 c.args.number
          (ap (λ (channel_state : ChannelState). channel_state.receiver.ni.0)
          (sym (read c channel_state at)) ∙ w.if-index-number.true))
          w.count_one.ensures.channel_states w.count_one.ensures.landings)
      | else-index-number w ↦
          rw (w.self-is, w.landings-is) (AreCounted-away are within
          (λ channel_state at. false_from_ne_true (channel_state.receiver.ni.0 == c.args.number)
          (λ is. w.if-index-number.false
          (ap (λ (channel_state : ChannelState). channel_state.receiver.ni.0)
          (read c channel_state at)
          ∙ eqb-true channel_state.receiver.ni.0 c.args.number is))))
    ]

-- There are as many behind that.
size : (c : Joined-index-number)
    → length c.if-index-number.self.channel_states ≡ length c.turns.self.channel_states
size c = (more c).size ∙ sym c.turns.invariant.are.size

pub next_busy-channel-requires-in-turns : goal.next_busy-channel-requires-in-turns
next_busy-channel-requires-in-turns c =
    omega (arith, size c, c.turns-test.true, c.len.ensures)

pub turns-smaller : goal.turns-smaller
turns-smaller c =
    omega (
      arith,
      size ((goal.at.turns-smaller c).Joined-index-number),
      c.turns-test.true,
      c.len.ensures,
      c.next_busy-channel-in-turns.ensures.from,
    )

-- No words are noted anew, and those up to the next one that is marked are idle.
pub turns-preserved : goal.turns-preserved
turns-preserved c =
    let next = c.next_busy-channel-in-turns.ensures in
    record {
      are = AreCounted-until (more ((goal.at.turns-preserved c).Joined-index-number)) next.from next.end
          next.still;
      words = elim c.if-index-number.branch [
        | then-index-number w ↦
            ap (λ (all : ChannelsState). all.words) w.self-is ∙ w.count_one.ensures.words
            ∙ c.turns.invariant.words
        | else-index-number w ↦
            ap (λ (all : ChannelsState). all.words) w.self-is ∙ c.turns.invariant.words
      ];
      within = next.end;
    }

-- All are counted.
pub returns-clause-channel_states : goal.returns-clause-channel_states
returns-clause-channel_states c =
    counted-all c.turns.invariant.are (omega (arith, c.turns-test.false, c.len.ensures))

pub returns-clause-landings : goal.returns-clause-landings
returns-clause-landings c =
    noted-all c.turns.invariant.are (omega (arith, c.turns-test.false, c.len.ensures))
