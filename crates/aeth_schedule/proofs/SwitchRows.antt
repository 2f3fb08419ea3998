-- The rows of switches.
use Rattle.std.proofs.Common.{◌<◌, ℕ, All, length, subst, sym}
use Rattle.aeth_group.{specs.Members.groups_of, proofs.MemberLemmas.length-groups_of}
use Rattle.aeth_trace.specs.declared.switches.SwitchRow.{SwitchRow}
use Rattle.aeth_accepted.specs.Inputs.{AreAccepted, Inputs}

-- The rows of accepted inputs enter use cases that have a group.
pub rows-known : (inputs : Inputs) → AreAccepted inputs
    → All (λ row. row.to.0 < length (groups_of inputs.app).uses) inputs.switches
rows-known inputs accepted =
    subst (λ (n : ℕ). All (λ (row : SwitchRow). row.to.0 < n) inputs.switches)
    (sym (length-groups_of inputs.app)) accepted.switches.known
