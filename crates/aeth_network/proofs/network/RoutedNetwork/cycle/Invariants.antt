use Rattle.aeth_network.proofs.network.RoutedNetwork.cycle.Given as goal

-- The ledger of the blank.
abbrev pub ghosts-cycle_from : goal.ghosts-cycle_from
ghosts-cycle_from a = record { name = a.blank.name; parts = a.blank.parts }
