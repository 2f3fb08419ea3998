-- A run of items with their shapes, from one to those behind it.
use Rattle.std.proofs.Common.{ℕ, ◌≤◌, ◌≡◌, List, [], ◌∷◌, ◌∙◌, filter, length, map, get_or, ap}
use Rattle.std.proofs.Common.{refl, sym, arith, All, nat_lt}
use Rattle.aeth_server.specs.declared.shape.ChannelShape.{ChannelShape}
use Rattle.aeth_trace.specs.Words.{words_on}
use Rattle.aeth_trace.specs.declared.{receivers.PullRow.PullRow, words.WordRow.WordRow}
use Rattle.aeth_chain.specs.{Chain.Leg, Chain.leg_of, Chain.legs_of, ChainBounds.HasLandedBy}
use Rattle.aeth_chain.specs.{ChainBounds.IsDueInChain, ChainRun.first_offers}
use Rattle.aeth_chain.specs.{ChainRun.landings_along, ChainRun.offer_of, ChainRun.passed_on}
use Rattle.aeth_chain.specs.{ChainRun.runs_along, ChainRun.servers_along, Lanes.AreOffers}
use Rattle.aeth_chain.specs.{declared.item.ChainItem.ChainItem, declared.passing.Offer.Offer}
use Rattle.aeth_chain.proofs.ChainLemmas.{IsLegOf, chain-lands}
use Rattle.aeth_chain.proofs.ShapeLemmas.{behind, behind-is}

-- What is offered on the first channel is that of the first item.
pub first-is : (items : List ChainItem) (shapes : List ChannelShape) (none : ChainItem)
    (words : List WordRow) (cycles : ℕ) → 1 ≤ length items → length shapes ≡ length items
    → map offer_of (filter (λ row. nat_lt row.cycle cycles)
    (words_on words (get_or items 0 none).channel))
    ≡ first_offers words cycles (legs_of items shapes)
first-is [] shapes none words cycles some beside = absurd (omega arith)
first-is (item ∷ items) [] none words cycles some beside = absurd (omega arith)
first-is (item ∷ items) (shape ∷ shapes) none words cycles some beside = refl

-- With others behind an item, the landings are those of these.
pub landings-next : (pulls : List PullRow) (cycles : ℕ) (all : List Leg) (first own : List Offer)
    (items : List ChainItem) (shapes : List ChannelShape) (none : ChainItem)
    (shape : ChannelShape) → shape ≡ get_or shapes 0 shape → 2 ≤ length items
    → length shapes ≡ length items
    → landings_along cycles all first (runs_along pulls cycles own (legs_of items shapes))
    ≡ landings_along cycles all first (runs_along pulls cycles
    (passed_on pulls cycles (leg_of (get_or items 0 none) shape) own)
    (legs_of (behind items) (behind shapes)))
landings-next pulls cycles all first own [] shapes none shape same some beside =
    absurd (omega arith)
landings-next pulls cycles all first own (item ∷ []) shapes none shape same some beside =
    absurd (omega arith)
landings-next pulls cycles all first own (item ∷ next ∷ items) [] none shape same some beside =
    absurd (omega arith)
landings-next pulls cycles all first own (item ∷ next ∷ items) (one ∷ []) none shape same some
    beside = absurd (omega arith)
landings-next pulls cycles all first own (item ∷ next ∷ items) (one ∷ other ∷ shapes) none shape
    same some beside =
    ap (λ (of : ChannelShape). landings_along cycles all first (runs_along pulls cycles
    (passed_on pulls cycles (leg_of item of) own) (legs_of (next ∷ items) (other ∷ shapes))))
    (sym same)
    ∙ ap (λ xs. landings_along cycles all first (runs_along pulls cycles
    (passed_on pulls cycles (leg_of item shape) own) (legs_of xs (other ∷ shapes))))
    (sym (behind-is (item ∷ next ∷ items)))
    ∙ ap (λ ys. landings_along cycles all first (runs_along pulls cycles
    (passed_on pulls cycles (leg_of item shape) own)
    (legs_of (behind (item ∷ next ∷ items)) ys))) (sym (behind-is (one ∷ other ∷ shapes)))

-- A word that is due in a chain of some legs has landed.
pub legs-lands : (pulls : List PullRow) (cycles size : ℕ) (legs : List Leg) (first : List Offer)
    → AreOffers cycles first → All (IsLegOf size) legs → (i t : ℕ)
    → IsDueInChain legs first (servers_along pulls cycles first legs) cycles i t
    → 1 ≤ length legs
    → HasLandedBy (landings_along cycles legs first (runs_along pulls cycles first legs)) i t
legs-lands pulls cycles size [] first are legs_are i t is some = absurd (omega arith)
legs-lands pulls cycles size (leg ∷ legs) first are legs_are i t is some =
    chain-lands pulls cycles size leg legs first are legs_are i t is

-- There are as many legs as items.
pub legs-count : (items : List ChainItem) (shapes : List ChannelShape)
    → length shapes ≡ length items → length (legs_of items shapes) ≡ length items
legs-count [] shapes beside = refl
legs-count (item ∷ items) [] beside = absurd (omega arith)
legs-count (item ∷ items) (shape ∷ shapes) beside =
    let rest = legs-count items shapes (omega arith) in omega (arith, rest)
