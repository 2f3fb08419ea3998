use Rattle.std.proofs.Common.{◌∙◌, ◌<◌, ◌∷◌, [], ap, arith, length, subst, sym, take}
use Rattle.std.proofs.lemmas.List.Elements.{All-weaker}
use Rattle.aeth_components.specs.Components.{ComponentsState}
use Rattle.aeth_stimuli.specs.Stimuli.{Offer}
use Rattle.aeth_network.specs.Fits.{AreFit}
use Rattle.aeth_network.proofs.FitLemmas.{AreFit-next, HaveCounts-next}
use Rattle.aeth_network.proofs.ChannelStateCounts.{channel_states-accepted}
use Rattle.aeth_running.proofs.OutsideLogged.{length-all_outside}
use Rattle.aeth_network.proofs.giving.offer.Goals as goal

-- There are as many channels as before.
pub offer_one-requires-clause-offer : goal.offer_one-requires-clause-offer
offer_one-requires-clause-offer c =
    let within = c.requires.offers c.loop-one.one-index c.one-item.result c.loop-one-test.true in
    let same = channel_states-accepted c.loop-one.components c.args.components.now c.args.time
    c.args.untils.now
    (take c.loop-one.one-index c.args.offers.now) c.loop-one.invariant.components in
    subst (λ (one : Offer). one.number < length c.loop-one.components.channel_states)
    (sym c.one-item.is)
    (omega (arith, within, same))

pub offer_one-requires-clause-untils : goal.offer_one-requires-clause-untils
offer_one-requires-clause-untils c = c.requires.untils ∙ sym
    (channel_states-accepted c.loop-one.components c.args.components.now c.args.time
    c.args.untils.now
    (take c.loop-one.one-index c.args.offers.now) c.loop-one.invariant.components)

pub offer_one-requires-clause-outside : goal.offer_one-requires-clause-outside
offer_one-requires-clause-outside c =
    ap length c.loop-one.invariant.outside
    ∙ length-all_outside c.args.time c.args.untils.now (take c.loop-one.one-index c.args.offers.now)
    c.args.outside.now.items ∙ c.requires.outside ∙ sym
    (channel_states-accepted c.loop-one.components c.args.components.now c.args.time
    c.args.untils.now
    (take c.loop-one.one-index c.args.offers.now) c.loop-one.invariant.components)

-- The next word has room.
pub offer_one-requires-clause-fit : goal.offer_one-requires-clause-fit
offer_one-requires-clause-fit c =
    let old = c.args.components.now in
    let is = c.loop-one.invariant.components in
    let fit = AreFit-next (length old.words) (length old.parts) c.args.time c.args.untils.now
    c.args.offers.now old.channel_states c.loop-one.components.channel_states c.loop-one.one-index
    c.one-item.result
    c.requires.time c.loop-one-test.true c.one-item.is c.requires.fit
    (ap (λ (all : ComponentsState). all.channel_states) is) in
    subst (λ n. AreFit n (length c.loop-one.components.parts) c.args.untils.now
    (c.one-item.result ∷ []) c.loop-one.components.channel_states)
    (sym (ap (λ (all : ComponentsState). length all.words) is))
    (subst (λ n. AreFit (length old.words) n c.args.untils.now (c.one-item.result ∷ [])
    c.loop-one.components.channel_states)
    (sym (ap (λ (all : ComponentsState). length all.parts) is)) fit)

-- It can be counted.
pub offer_one-requires-clause-counts : goal.offer_one-requires-clause-counts
offer_one-requires-clause-counts c =
    let outside = c.requires.outside in
    HaveCounts-next c.args.time c.args.untils.now c.args.offers.now c.args.outside.now.items
    c.loop-one.outside.items c.loop-one.one-index c.one-item.result
    (All-weaker (λ (one : Offer). one.number < length c.args.components.now.channel_states)
    (λ (one : Offer). one.number < length c.args.outside.now.items) (λ one within. omega arith)
    c.args.offers.now c.requires.offers)
    c.loop-one-test.true c.one-item.is c.requires.counts c.loop-one.invariant.outside
