use Rattle.aeth_allocation_tests.proofs.searches.both_answer.Given as goal

-- The ledger of the blank.
abbrev pub ghosts-counted : goal.ghosts-counted
ghosts-counted g a = record { name = a.blank.name; parts = a.blank.parts }
