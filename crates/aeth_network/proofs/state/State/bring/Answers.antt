use Rattle.std.proofs.Common.{◌∙◌, ◌<◌, ◌++◌, ℕ, List, ap, fold, length, map, refl, subst, sym}
use Rattle.std.specs.List.{All, slice_index_or}
use Rattle.aeth_trace.specs.Channels.{channel_number}
use Rattle.aeth_components.specs.declared.channel_state.ChannelState.{ChannelState}
use Rattle.aeth_schedule.specs.declared.session_start.SessionStart.{SessionStart}
use Rattle.aeth_running.specs.Network.{outside_with}
use Rattle.aeth_stimuli.specs.{Loaded.no_channel_state, Stimuli.Offer, Stimuli.Take}
use Rattle.aeth_network.proofs.ChannelStateCounts.{channel_states-accepted, channel_states-gone}
use Rattle.aeth_network.proofs.ChannelStateCounts.{length-untils}
use Rattle.aeth_network.proofs.state.State.bring.Goals as goal

-- The words are for channels that there are, once sessions have gone.
pub offer-requires-clause-offers : goal.offer-requires-clause-offers
offer-requires-clause-offers c =
    let rows = c.args.rows.now in
    subst (λ n. All (λ (one : Offer). one.number < n) rows.offers.now)
    (sym (channel_states-gone c.start.new.components c.args.self.now.components rows.session_starts
    c.start.ensures.components)) c.requires.offers

pub offer-requires-clause-untils : goal.offer-requires-clause-untils
offer-requires-clause-untils c =
    let rows = c.args.rows.now in
    ap length (c.deref.ensures.value ∙ c.start.ensures.untils)
    ∙ length-untils rows.session_starts c.args.self.now.untils.items ∙ c.requires.untils
    ∙ sym (channel_states-gone c.start.new.components c.args.self.now.components rows.session_starts
    c.start.ensures.components)

pub offer-requires-clause-outside : goal.offer-requires-clause-outside
offer-requires-clause-outside c =
    let rows = c.args.rows.now in
    c.requires.outside
    ∙ sym (channel_states-gone c.start.new.components c.args.self.now.components rows.session_starts
    c.start.ensures.components)

-- The rows of receivers are for channels that there are.
pub take-requires : goal.take-requires
take-requires c =
    let rows = c.args.rows.now in
    subst (λ n. All (λ (one : Take). one.number < n) rows.takes.now)
    (sym (channel_states-accepted c.offer.new.components c.start.new.components c.args.time
    c.deref.result.now rows.offers.now c.offer.ensures.components
    ∙ channel_states-gone c.start.new.components c.args.self.now.components rows.session_starts
    c.start.ensures.components)) c.requires.takes

-- All has come.
pub returns : goal.returns
returns c =
    let old = c.args.self.now in
    let rows = c.args.rows.now in
    record {
      components = rw (
        c.take.ensures,
        c.offer.ensures.components,
        c.start.ensures.components,
        c.deref.ensures.value,
      ) refl;
      untils = c.start.ensures.untils;
      outside = c.offer.ensures.outside
          ∙ ap (λ (list : List ℕ). fold (outside_with c.args.time list) old.outside.items
          rows.offers.now) c.deref.ensures.value;
      replaced = c.note.ensures.items
          ∙ ap (λ (channel_states : List ChannelState). old.replaced.items
          ++ map (λ (one : SessionStart).
          slice_index_or channel_states (channel_number one.channel) no_channel_state)
          rows.session_starts)
          c.channel_states.ensures;
      capacity = c.note.ensures.capacity;
    }
