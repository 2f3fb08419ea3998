use Rattle.std.{proofs.Common.take, specs.List.flat_map, proofs.lemmas.List.Elements.All-take}
use Rattle.aeth_ni.specs.{Entries.IsFor, Program.entries_of_channel}
use Rattle.aeth_ni.proofs.WriteLemmas.{HoldJust-written_by}
use Rattle.aeth_ni.proofs.laws.interfaces_hold_their_entries.Goals as goal

-- A part of the program, write by write.
pub returns : goal.returns
returns c = λ interfaces held program count can hold.
    HoldJust-written_by (take count program) interfaces (flat_map entries_of_channel held)
    (All-take (IsFor interfaces) count program can) hold
