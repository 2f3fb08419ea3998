-- A chain is a run of an accepted plan: the landings on its last channel are those of the log of the run
-- that has its offers as words.
use Rattle.std.proofs.Common.{◌≡◌, ◌∙◌, ◌≤◌, ℕ, suc, List, [], ◌∷◌, Some, length, map, slice_get}
use Rattle.std.proofs.Common.{refl, sym, ap, arith, All}
use Rattle.std.proofs.lemmas.List.Elements.{All-head, All-tail}
use Rattle.std.specs.List.{range_with_len}
use Rattle.aeth_base.specs.{declared.ids.UseId.UseId, Limits.max_cycles}
use Rattle.aeth_server.specs.{ChannelShape.IsShapeInRange, PrivateServer.landed}
use Rattle.aeth_server.specs.{declared.shape.ChannelShape.ChannelShape}
use Rattle.aeth_trace.specs.declared.{receivers.PullRow.PullRow, words.WordRow.WordRow}
use Rattle.aeth_report.specs.{Flows.Run, RunLog.log_of}
use Rattle.aeth_accepted.specs.Inputs.{Inputs, run_of}
use Rattle.aeth_chain.specs.Chain.{AreDistinct, IsChain, Leg, leg_of, legs_of}
use Rattle.aeth_chain.specs.ChainInputs.{AreTabled, forwarding_inputs, landings_on, last_channel}
use Rattle.aeth_chain.specs.ChainInputs.{told}
use Rattle.aeth_chain.specs.ChainRun.{ChainData, chain_log, first_offers, landing_on}
use Rattle.aeth_chain.specs.ChainRun.{landings_along, passed_on, runs_along, server_on}
use Rattle.aeth_chain.specs.Lanes.{AreOffers}
use Rattle.aeth_chain.specs.declared.{item.ChainItem.ChainItem, passing.Offer.Offer}
use Rattle.aeth_chain.proofs.{ChannelLogs.landings-of, ChannelLogs.session-rows}
use Rattle.aeth_chain.proofs.{ChannelLogs.told-same, LaneLemmas.shape-paths}
use Rattle.aeth_chain.proofs.{LoggedLemmas.item-in_use, MergedLemmas.words-merged}
use Rattle.aeth_chain.proofs.{OfferLemmas.passed-offers}

module _ (pulls : List PullRow) (cycles : ℕ) (all : List Leg) (first : List Offer) where
  -- The last of some items, with what is offered on its channel, is the one whose landings are told.
  record IsEnd (items : List ChainItem) (shapes : List ChannelShape) (own : List Offer) : Type 0 where
    place : ℕ
    item : ChainItem
    shape : ChannelShape
    offers : List Offer
    item_at : slice_get items place ≡ Some item
    shape_at : slice_get shapes place ≡ Some shape
    offers_at : slice_get (map (λ run. run.offers) (runs_along pulls cycles own (legs_of items shapes)))
        place ≡ Some offers
    are : AreOffers cycles offers
    channel_is : last_channel items ≡ item.channel
    landings : landings_along cycles all first (runs_along pulls cycles own (legs_of items shapes))
        ≡ map (landing_on cycles all first (record {
          offers = offers;
          server = server_on pulls cycles (leg_of item shape) offers;
        })) (range_with_len 0 (landed (server_on pulls cycles (leg_of item shape) offers) cycles))

  last-end : (items : List ChainItem) (shapes : List ChannelShape) (own : List Offer)
      → 1 ≤ length items → length shapes ≡ length items → All IsShapeInRange shapes
      → AreOffers cycles own → IsEnd items shapes own
  last-end [] shapes own some beside ranges are = absurd (omega arith)
  last-end (item ∷ items) [] own some beside ranges are = absurd (omega arith)
  last-end (item ∷ []) (shape ∷ other ∷ shapes) own some beside ranges are = absurd (omega arith)
  last-end (item ∷ []) (shape ∷ []) own some beside ranges are = record {
    place = 0;
    item = item;
    shape = shape;
    offers = own;
    item_at = refl;
    shape_at = refl;
    offers_at = refl;
    are = are;
    channel_is = refl;
    landings = refl;
  }
  last-end (item ∷ next ∷ items) (shape ∷ []) own some beside ranges are = absurd (omega arith)
  last-end (item ∷ next ∷ items) (shape ∷ other ∷ shapes) own some beside ranges are =
      let range = All-head IsShapeInRange shape (other ∷ shapes) ranges in
      let passed = passed-offers pulls cycles (leg_of item shape) own are (shape-paths shape range) in
      let end = last-end (next ∷ items) (other ∷ shapes) (passed_on pulls cycles (leg_of item shape) own)
      (omega arith) (omega (arith, beside)) (All-tail IsShapeInRange shape (other ∷ shapes) ranges)
      passed in
      record {
        place = suc end.place;
        item = end.item;
        shape = end.shape;
        offers = end.offers;
        item_at = end.item_at;
        shape_at = end.shape_at;
        offers_at = end.offers_at;
        are = end.are;
        channel_is = end.channel_is;
        landings = end.landings;
      }

-- The landings of a chain are those of its last channel in the log of the run.
pub chains-are-runs : (inputs : Inputs) (u : UseId) (items : List ChainItem)
    (shapes : List ChannelShape) → AreTabled inputs u items shapes → IsChain items shapes
    → AreDistinct items → 1 ≤ inputs.cycles → inputs.cycles ≤ max_cycles → (first : List Offer)
    → AreOffers inputs.cycles first
    → told (landings_along inputs.cycles (legs_of items shapes) first
    (runs_along inputs.pulls inputs.cycles first (legs_of items shapes)))
    ≡ told (landings_on (log_of (run_of (forwarding_inputs inputs u items
    (map (λ run. run.offers) (runs_along inputs.pulls inputs.cycles first (legs_of items shapes))))))
    (last_channel items))
chains-are-runs inputs u items shapes tabled chain distinct some early first are =
    let legs = legs_of items shapes in
    let offers = map (λ run. run.offers)
    (runs_along inputs.pulls inputs.cycles first (legs_of items shapes)) in
    let run : Run = run_of (forwarding_inputs inputs u items offers) in
    let end = last-end inputs.pulls inputs.cycles legs first items shapes first chain.some chain.beside
    chain.ranges are in
    let own = end.item.channel in
    let held = item-in_use inputs u items shapes tabled early end.place end.item end.shape end.item_at
    end.shape_at in
    let words = words-merged inputs.cycles items offers end.place end.item end.offers end.item_at
    end.offers_at distinct end.are in
    ap told end.landings
    ∙ sym (told-same run u.0 own refl held.has some (leg_of end.item end.shape) end.offers refl
    held.shape_is words end.are legs first)
    ∙ ap told (sym (session-rows run u.0 own refl held.has some))
    ∙ ap told (sym (landings-of run own.conn.0 own.side held.conn))
    ∙ ap (λ one. told (landings_on (log_of run) one)) (sym end.channel_is)

-- So are those of a log that is the chain's.
pub log-runs : (log : ChainData) (items : List ChainItem) (shapes : List ChannelShape)
    (words : List WordRow) (pulls : List PullRow) (cycles : ℕ) → IsChain items shapes
    → AreDistinct items → 1 ≤ cycles → cycles ≤ max_cycles
    → AreOffers cycles (first_offers words cycles (legs_of items shapes))
    → log ≡ chain_log (legs_of items shapes) words pulls cycles → (inputs : Inputs) (u : UseId)
    → AreTabled inputs u items shapes → inputs.pulls ≡ pulls → inputs.cycles ≡ cycles
    → told log.landings
    ≡ told (landings_on (log_of (run_of (forwarding_inputs inputs u items log.offers)))
    (last_channel items))
log-runs log items shapes words pulls cycles chain distinct some early are is inputs u tabled
    same_pulls same_cycles =
    rw (is, ← same_pulls, ← same_cycles)
    (chains-are-runs inputs u items shapes tabled chain distinct (rw same_cycles some)
    (rw same_cycles early) (first_offers words inputs.cycles (legs_of items shapes))
    (rw same_cycles are))
