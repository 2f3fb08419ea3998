use Rattle.std.proofs.Common.{◌∙◌, ◌-◌, ap, length, subst, arith}
use Rattle.aeth_base.specs.declared.ids.Side.TheVariants.{Fwd}
use Rattle.aeth_chain.specs.{Chain.legs_of, Chain.size_of, ChainRun.ChainData, Lanes.AreOffers}
use Rattle.aeth_chain.specs.{declared.item.ChainItem.ChainItem}
use Rattle.aeth_chain.proofs.{AlongLemmas.first-is, AlongLemmas.legs-count, AlongLemmas.legs-lands}
use Rattle.aeth_chain.proofs.{ChainedLemmas.log-runs, ShapeLemmas.chain-legs}
use Rattle.aeth_chain.proofs.run.run_chain.Goals as goal

-- What stands for an item where there is none.
abbrev no_item : ChainItem
no_item = record { channel = record { conn = record { 0 = 0 }; side = Fwd }; work = 0 }

-- The log has what the run tells.
pub returns-clause-gives : goal.returns-clause-gives
returns-clause-gives c =
    let is = first-is c.args.items.now c.args.shapes.now no_item c.args.words.now c.args.cycles
    c.requires.chain.some c.requires.chain.beside in
    let first = c.in_ok-first.ensures.gives ∙ is in
    let own = c.in_ok-own.ensures.gives ∙ is in
    let offers = rw (c.new-offers.ensures.items, own) at c.in_ok-landings.ensures.offers in
    let landings = rw (c.deref.ensures.value, first, own) at c.in_ok-landings.ensures.landings in
    let words = c.len.ensures ∙ c.in_ok-first.first.ok.0 ∙ ap length first in
    let landed = c.len-2.ensures ∙ c.in_ok-landings.landings.ok.0 ∙ ap length landings in
    λ i. record { offers = offers i; landings = landings i; left = words i - landed i }

-- And so a word that is due has landed.
pub returns-clause-lands : goal.returns-clause-lands
returns-clause-lands c = λ i t is.
    let landings = ap (λ (log : ChainData). log.landings) (returns-clause-gives c) in
    let first = c.in_ok-first.ensures.gives
    ∙ first-is c.args.items.now c.args.shapes.now no_item c.args.words.now c.args.cycles
    c.requires.chain.some c.requires.chain.beside in
    let count = legs-count c.args.items.now c.args.shapes.now c.requires.chain.beside in
    rw landings (legs-lands c.args.receivers.now c.args.cycles
    (size_of (legs_of c.args.items.now c.args.shapes.now))
    (legs_of c.args.items.now c.args.shapes.now) _
    (subst (AreOffers c.args.cycles) first c.in_ok-first.ensures.offers)
    (chain-legs c.args.items.now c.args.shapes.now c.requires.chain c.are_granted.ensures) i t is
    (omega (arith, count, c.requires.chain.some)))

-- And the landings are those of a run.
pub returns-clause-logged : goal.returns-clause-logged
returns-clause-logged c =
    let first = c.in_ok-first.ensures.gives
    ∙ first-is c.args.items.now c.args.shapes.now no_item c.args.words.now c.args.cycles
    c.requires.chain.some c.requires.chain.beside in
    log-runs _ c.args.items.now c.args.shapes.now c.args.words.now c.args.receivers.now
    c.args.cycles c.requires.chain c.requires.distinct c.requires.least c.requires.most
    (subst (AreOffers c.args.cycles) first c.in_ok-first.ensures.offers) (returns-clause-gives c)
