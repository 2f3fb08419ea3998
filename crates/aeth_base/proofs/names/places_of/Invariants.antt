use Rattle.std.proofs.Common.{take}
use Rattle.aeth_base.specs.Names.{HaveFirstPlaces}
use Rattle.aeth_base.proofs.names.places_of.Given as goal

-- The names before a place have their places.
abbrev pub invariant-loop-place : goal.invariant-loop-place
invariant-loop-place l = HaveFirstPlaces (take l.place l.list) l.places
