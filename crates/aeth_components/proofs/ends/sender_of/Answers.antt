use Rattle.std.proofs.Common.{ap, arith, sym, ◌∙◌, length}
use Rattle.std.proofs.lemmas.Option.{same_Some, slice_get_within}
use Rattle.aeth_chip.specs.declared.node.Link.{Link}
use Rattle.aeth_chip.proofs.WireLemmas.{have_delays, wires_of-split}
use Rattle.aeth_components.specs.Ends.{part_number}
use Rattle.aeth_components.proofs.ends.sender_of.Goals as goal

-- The component at a node sends on the link.
pub returns-then-wire-links : goal.returns-then-wire-links
returns-then-wire-links c =
    let chip = c.args.chip.now in
    let test = c.if-wire-links.true in
    let links = c.links.ensures.links in
    record {
      first = λ link at.
          c.number_of.ensures.number
          ∙ ap (λ (link : Link). part_number (length chip.nis) link.from)
          (same_Some c.link.result link (sym c.link.ensures.link ∙ at));
      further = λ past. absurd (omega arith);
      below = c.number_of.ensures.below;
    }

-- A stage sends on each further wire.
pub returns : goal.returns
returns c =
    let chip = c.args.chip.now in
    let split = wires_of-split chip.links (have_delays chip c.slots.ensures.chip) in
    let test = c.if-wire-links.false in
    let links = c.links.ensures.links in
    let within = c.requires in
    record {
      first = λ link at.
          absurd (let here = slice_get_within chip.links c.args.wire link at in omega arith);
      further = λ past.
          omega (
            arith,
            c.nis.ensures.nis,
            c.routers.ensures.routers,
            links,
            c.links-2.ensures.links,
          );
      below = omega (
        arith,
        split,
        test,
        links,
        within,
        c.nis.ensures.nis,
        c.routers.ensures.routers,
        c.links-2.ensures.links,
      );
    }
