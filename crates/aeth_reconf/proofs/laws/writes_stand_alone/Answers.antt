use Rattle.std.proofs.Common.{inl}
use Rattle.aeth_reconf.proofs.OneWritten.{slot_one, written_one}
use Rattle.aeth_reconf.proofs.laws.writes_stand_alone.Goals as goal

-- Two routes of one queue meet.
pub returns-clause-route : goal.returns-clause-route
returns-clause-route c groups row_of spans rows may apart one other i j s e t both ni queue =
    written_one groups row_of spans rows may apart one other i j s e t both
    (record { ni = ni; shares = inl queue })

-- So do two slots.
pub returns-clause-slot : goal.returns-clause-slot
returns-clause-slot c = slot_one
