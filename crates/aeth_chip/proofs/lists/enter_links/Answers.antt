use Rattle.std.proofs.Common.{◌≡◌, ℕ, List, length, subst, arith, take_all}
use Rattle.aeth_chip.specs.Index.{AreListed, HasEntries, IsPort, as_router}
use Rattle.aeth_chip.specs.declared.node.{End.TheVariants.From, End.TheVariants.To, Link.Link}
use Rattle.aeth_chip.proofs.lists.enter_links.Goals as goal

-- All links have been entered.
pub returns : goal.returns
returns c =
    let links = c.args.links.now in
    let routers = c.args.routers in
    let its = c.loop-number.its in
    let so_far = c.loop-number.invariant in
    let done = c.loop-number-test.false in
    let end = c.loop-number.auto.number-end in
    let count : c.loop-number.number ≡ length links = omega arith in
    let all = take_all c.loop-number.number links done in
    record {
      outgoing = subst (λ (ls : List Link). AreListed as_router From ls routers its.outgoing.items)
          all so_far.outgoing;
      incoming = subst (λ (ls : List Link). AreListed as_router To ls routers its.incoming.items)
          all so_far.incoming;
      ports = subst (λ (n : ℕ). HasEntries (IsPort links) n its.ports.items) count so_far.ports;
    }
