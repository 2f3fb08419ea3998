use Rattle.aeth_hardware_tests.proofs.resting.idle_parts_rest.Given as goal

-- The ledger of the blank.
abbrev pub ghosts-calls_with : goal.ghosts-calls_with
ghosts-calls_with g a = record { name = a.blank.name; parts = a.blank.parts }
