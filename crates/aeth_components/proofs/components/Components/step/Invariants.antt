use Rattle.aeth_components.proofs.components.Components.step.Given as goal

-- The ledger of the blank.
abbrev pub ghosts-step_from : goal.ghosts-step_from
ghosts-step_from a = record { name = a.blank.name; parts = a.blank.parts }
