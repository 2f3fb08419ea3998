use Rattle.std.proofs.Common.{◌≡◌, filter, map, take, nat_lt}
use Rattle.aeth_trace.specs.Words.{words_on}
use Rattle.aeth_chain.specs.ChainRun.{offer_of}
use Rattle.aeth_chain.proofs.run.first_offers.Given as goal

-- What is offered of the words so far.
abbrev pub invariant-loop-place : goal.invariant-loop-place
invariant-loop-place l = l.offers.items ≡ map offer_of
    (filter (λ row. nat_lt row.cycle l.cycles) (take l.place (words_on l.words l.channel)))
