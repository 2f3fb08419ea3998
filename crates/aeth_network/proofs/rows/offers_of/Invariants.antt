use Rattle.std.proofs.Common.{◌≡◌, filter, map, nat_lt, take}
use Rattle.aeth_stimuli.specs.Stimuli.{offer_of}
use Rattle.aeth_network.proofs.rows.offers_of.Given as goal

-- The rows so far.
abbrev pub invariant-loop-row : goal.invariant-loop-row
invariant-loop-row l = l.offers.items
    ≡ map offer_of (filter (λ row. nat_lt row.cycle l.cycles) (take l.row-index l.words))
