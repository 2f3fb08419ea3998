use Rattle.aeth_chip.proofs.chip.Chip.find_ni.Goals as goal

-- The place of the name among the interfaces, where names are compared by their bytes.
pub returns-in-Some : goal.returns-in-Some
returns-in-Some c = rw (← c.self.view_is) c.in-Some.ensures

-- No place, for the same reason.
pub returns-in-None : goal.returns-in-None
returns-in-None c = rw (← c.self.view_is) c.in-None.ensures
