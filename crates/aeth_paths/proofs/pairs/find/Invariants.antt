use Rattle.aeth_paths.proofs.pairs.find.Given as goal

-- The ledger of the blank.
abbrev pub ghosts-found_from : goal.ghosts-found_from
ghosts-found_from g a = record { name = a.blank.name; parts = a.blank.parts }
