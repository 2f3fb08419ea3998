use Rattle.std.proofs.Common.{◌∙◌, sym}
use Rattle.aeth_chip.proofs.RangeLemmas.{delays_are, delays_are_1}
use Rattle.aeth_chip.proofs.making.known_links.Goals as goal

-- The delays of the links are in their range.
pub links_of-requires-clause-delays : goal.links_of-requires-clause-delays
links_of-requires-clause-delays c =
    rw c.link_tables.ensures (delays_are _ c.requires.keys c.requires.range)

-- They are 1 in a version without delays.
pub links_of-requires-clause-none : goal.links_of-requires-clause-none
links_of-requires-clause-none c = λ no_delays.
    rw c.link_tables.ensures
    (delays_are_1 _ c.requires.keys (sym c.allows_delays.ensures ∙ no_delays))
