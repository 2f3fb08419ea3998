use Rattle.std.proofs.Common.{◌≡◌, ◌≤◌, ◌+◌, ◌*◌, ◌++◌, ◌∙◌, ℕ, length, sym, ap, subst, arith}
use Rattle.std.proofs.Common.{flat_map, slice_index}
use Rattle.std.proofs.lemmas.Nat.{row_fits}
use Rattle.std.specs.List.{range_with_len}
use Rattle.aeth_chip.specs.{Nodes.sends_on, declared.node.Node.TheVariants.Router}
use Rattle.aeth_rtable.specs.{Entries.HasEntries, Rows.rows_of_port}
use Rattle.aeth_rtable.proofs.Lists.{pushed_more}
use Rattle.aeth_rtable.proofs.RouterPorts.{few_ports, link_there, port_count, port_known, port_link}
use Rattle.aeth_rtable.proofs.rows.push_router.Goals as goal

-- Ports are few.
pub overflow_cast-port : goal.overflow_cast-port
overflow_cast-port c =
    let few = few_ports c.args.chip.now c.args.router c.outgoing-links.result.now
    c.outgoing-links.ensures c.requires.chip c.requires.router in
    let within = c.loop-port-test.true in
    omega (arith, few, within)

-- The entries of the link are there.
pub push_port-requires : goal.push_port-requires
push_port-requires c =
    let chip = c.args.chip.now in
    let known = port_known chip c.args.router c.outgoing-links.result.now c.outgoing-links.ensures
    c.loop-port.port c.loop-port-test.true in
    let link = (link_there chip c.args.router c.outgoing-links.result.now c.outgoing-links.ensures
    c.loop-port.port c.loop-port-test.true).0 in
    let fits : link * c.slots.result + c.slots.result ≤ length chip.links * c.slots.result =
    row_fits link c.slots.result (length chip.links) c.slots.result known (omega arith) in
    let room : length c.args.entries.now ≡ length chip.links * c.slots.result =
    c.requires.count ∙ ap (λ (n : ℕ). length chip.links * n) (sym c.slots.ensures.slots) in
    omega (arith, fits, room)

-- One more port.
pub loop-port-preserved : goal.loop-port-preserved
loop-port-preserved c = λ hops has.
    let chip = c.args.chip.now in
    let router = c.args.router in
    let port = c.loop-port.port in
    let rows = c.loop-port.rows.items in
    let sends = sends_on (Router router) chip.links in
    let own = subst (λ (n : ℕ). HasEntries n hops c.args.entries.now) (sym c.slots.ensures.slots) has in
    let there = (link_there chip router c.outgoing-links.result.now c.outgoing-links.ensures port
    c.loop-port-test.true).0 in
    let link = port_link chip router c.outgoing-links.result.now c.outgoing-links.ensures port
    c.loop-port-test.true in
    pushed_more (λ (p : ℕ). rows_of_port hops chip.slots router p (slice_index sends p)) port
    c.args.rows.now.items rows c.push_port.new.rows.items (c.loop-port.invariant hops has)
    (c.in_ok-push_port.ensures hops own
    ∙ ap (λ (n : ℕ). rows ++ rows_of_port hops n router port there) c.slots.ensures.slots
    ∙ ap (λ (l : ℕ). rows ++ rows_of_port hops chip.slots router port l) link)

-- All ports.
pub returns : goal.returns
returns c = λ hops has.
    let chip = c.args.chip.now in
    let sends = sends_on (Router c.args.router) chip.links in
    let count = port_count chip c.args.router c.outgoing-links.result.now c.outgoing-links.ensures in
    let all : c.loop-port.port ≡ length sends =
    omega (arith, count, c.loop-port.auto.port-end, c.loop-port-test.false) in
    c.loop-port.invariant hops has
    ∙ ap (λ (n : ℕ). c.args.rows.now.items
    ++ flat_map (λ port. rows_of_port hops chip.slots c.args.router port (slice_index sends port))
    (range_with_len 0 n)) all
