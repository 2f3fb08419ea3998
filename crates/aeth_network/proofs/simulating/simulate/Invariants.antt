use Rattle.aeth_network.proofs.simulating.simulate.Given as goal

-- The ledger of the blank.
abbrev pub ghosts-simulate_from : goal.ghosts-simulate_from
ghosts-simulate_from a = record { name = a.blank.name; parts = a.blank.parts }
