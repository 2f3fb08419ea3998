use Rattle.aeth_chip.proofs.making.with_index.Goals as goal

-- The lists of the routers' links are kept.
pub returns-clause-index : goal.returns-clause-index
returns-clause-index c =
    λ routers lists. record { listed = lists.of_routers; found = c.in_ok-found.ensures }
