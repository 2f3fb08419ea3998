use Rattle.std.proofs.Common.{arith}
use Rattle.aeth_trace.specs.Words.{words_on}
use Rattle.aeth_chain.proofs.FirstLemmas.{first-more, first-whole}
use Rattle.aeth_chain.proofs.run.first_offers.Goals as goal

-- One more word.
pub loop-place-preserved : goal.loop-place-preserved
loop-place-preserved c =
    first-more c.args.cycles (words_on c.args.words.now c.args.channel) _ _ c.loop-place.place
    c.nth_word-row.result c.nth_word-row.ensures c.loop-place.invariant c.in_ok-push_within.ensures

-- They are those of the channel's words.
pub returns-clause-offers : goal.returns-clause-offers
returns-clause-offers c =
    first-whole c.args.cycles c.args.words.now c.args.channel c.loop-place.offers.items
    c.loop-place.place c.loop-place.invariant
    (omega (arith, c.loop-place-test.false, c.count_on-place-end.ensures))
    c.rows-rows.ensures.order c.rows-rows.ensures.few
