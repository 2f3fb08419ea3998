use Rattle.aeth_document.proofs.names.place_of.Goals as goal

-- The place among the names, which are compared by their bytes.
pub returns-in-Some-place : goal.returns-in-Some-place
returns-in-Some-place c =
    rw (← rw c.as_bytes.ensures.value at c.in-Some.ensures) c.in-Some-place.ensures

-- No place, for the same reason.
pub returns-in-None-place : goal.returns-in-None-place
returns-in-None-place c =
    rw (← rw c.as_bytes.ensures.value at c.in-Some.ensures) c.in-None-place.ensures
