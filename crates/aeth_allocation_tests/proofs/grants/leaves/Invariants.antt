use Rattle.aeth_allocation_tests.proofs.grants.leaves.Given as goal

-- The ledger of the blank.
abbrev pub ghosts-narrowed : goal.ghosts-narrowed
ghosts-narrowed a = record { name = a.blank.name; parts = a.blank.parts }
