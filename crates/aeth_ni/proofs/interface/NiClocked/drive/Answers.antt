use Rattle.std.proofs.Common.{◌≡◌, ◌%◌, ◌∙◌, ap, length, None, refl, arith}
use Rattle.std.proofs.lemmas.List.{get_or_default}
use Rattle.aeth_clocked.proofs.WiresLemmas.{AreLinks-one, Drives-slice_set}
use Rattle.aeth_ni.specs.{Component.queue_at_cycle, Component.emitted_by, Interface.InterfaceState}
use Rattle.aeth_ni.proofs.interface.NiClocked.drive.Goals as goal

-- The leaving link is a link.
pub put-requires : goal.put-requires
put-requires c =
    rw (ap (λ (ni : InterfaceState). ni.leaving.0) c.self.view_is)
    (AreLinks-one c.args.self.now.leaving.0 (length c.args.wires.now) c.requires)

-- The flit is on the leaving link.
pub returns-clause-wires : goal.returns-clause-wires
returns-clause-wires c =
    let ni = c.args.self.now in
    let leaving : c.self.inside.leaving.0 ≡ ni.leaving.0 =
    ap (λ (ni : InterfaceState). ni.leaving.0) c.self.view_is in
    let entries : c.self.inside.entries.items ≡ ni.entries =
    ap (λ (ni : InterfaceState). ni.entries) c.self.view_is in
    let queues : c.self.inside.queues.items ≡ ni.queues =
    ap (λ (ni : InterfaceState). ni.queues) c.self.view_is in
    let items = c.self.inside.entries.items in
    let positive = c.self.invariant.some_slot in
    let entry : c.index-entry.result.now ≡ queue_at_cycle items c.args.cycle =
    c.index-entry.ensures
    ∙ rw (c.len.ensures, c.self.inside.entries.ok.0)
    (get_or_default items (c.args.cycle % length items) _ None (omega arith)) in
    let flit : c.emit_by-flit.result ≡ emitted_by (queue_at_cycle ni.entries c.args.cycle) ni.queues =
    c.emit_by-flit.ensures.flit ∙ rw (entry, c.deref_mut.ensures.value, entries, queues) refl in
    rw (c.put.ensures, leaving, flit)
    (Drives-slice_set ni.leaving.0
    (λ link. emitted_by (queue_at_cycle ni.entries c.args.cycle) ni.queues) c.args.wires.now
    (AreLinks-one ni.leaving.0 (length c.args.wires.now) c.requires))
