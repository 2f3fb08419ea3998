use Rattle.std.proofs.Common.{◌∙◌, sym}
use Rattle.aeth_routed_sessions.specs.RoutedSessions.{routed_sessions_of}
use Rattle.aeth_routed_sessions.proofs.laws.networks_carry.Goals as goal

-- Its wires are exact in each cycle.
pub returns : goal.returns
returns c = λ inputs accepted nets wires run l t known.
    let ok = c.runs_have_routed_sessions.ensures inputs accepted in
    let exact = c.components_stand.ensures.wires (routed_sessions_of inputs) ok nets wires run t in
    sym (c.wires_carry.ensures (routed_sessions_of inputs) ok t (wires t) exact l)
    ∙ c.routed_sessions_carry.ensures.first inputs accepted l t known
