use Rattle.std.proofs.{Common.◌+◌, Common.sym, Common.arith, lemmas.List.get_or-map}
use Rattle.aeth_chain.specs.declared.passing.Offer.{Offer}
use Rattle.aeth_chain.proofs.passing.offer_behind.Goals as goal

-- The run isn't long, nor is the work.
pub overflow_add-result : goal.overflow_add-result
overflow_add-result c =
    omega (arith, c.requires.within, c.requires.lane.most, c.requires.lane.work)

-- The value is that at the word's place.
pub returns : goal.returns
returns c =
    let work = c.args.lane.now.item.work in
    let value = get_or-map (λ (offer : Offer). offer.value) c.args.lane.now.offers.now c.args.place
    _ 0 c.requires.place in
    λ i. record { cycle = c.requires.taken i + work; value = sym value i }
