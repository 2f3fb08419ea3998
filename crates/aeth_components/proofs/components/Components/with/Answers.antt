use Rattle.std.proofs.Common.{None, Option, ap, arith, length, refl, ℕ, ◌∙◌}
use Rattle.std.proofs.lemmas.List.{length-replicate}
use Rattle.aeth_chip.proofs.WireLemmas.{have_delays, wires_of-split}
use Rattle.aeth_chip.specs.Wires.{wires_of}
use Rattle.aeth_clocked.specs.declared.flit.Flit.{Flit}
use Rattle.aeth_components.proofs.{KindLemmas.wirings-kind, KindLemmas.length-kind}
use Rattle.aeth_components.proofs.{MadeLemmas.IsWired-new, SeenCycle.new_parts-seen}
use Rattle.aeth_components.specs.Making.{new_parts}
use Rattle.aeth_components.proofs.components.Components.with.Goals as goal

-- The components are wired by the chip's wires.
pub invariant_of-result : goal.invariant_of-result
invariant_of-result c =
    let chip = c.args.chip.now in
    let rooms = c.args.rooms.now in
    let kind = c.args.kind in
    let made = c.in_ok-beside.ensures in
    let landings = ap length made.landings
    ∙ length-replicate {A = ℕ} (length c.args.channels.words) 0 in
    let flits = ap length made.flits ∙ length-replicate {A = ℕ} (length chip.links) 0 in
    let links = c.slots.ensures.chip.few_links in
    rw (c.in_ok-parts.ensures, made.wires) (
      record {
        wired = rw (
          length-replicate {A = Option Flit} (wires_of chip.links) None,
          wirings-kind chip kind rooms,
        )
            (IsWired-new chip c.slots.ensures.chip rooms);
        channel_states = rw (length-kind chip kind rooms) c.requires.channel_states;
        landings = landings;
        flits = (
            let split = wires_of-split chip.links (have_delays chip c.slots.ensures.chip) in
            rw (length-replicate {A = Option Flit} (wires_of chip.links) None)
            (omega (arith, flits, split)));
        few = omega (arith, flits, links);
      },
      made.ready rooms (c.deref.ensures.value ∙ c.in_ok-parts.ensures),
      made.injecting rooms,
      made.enqueuing (new_parts chip kind rooms),
    )

-- The components are seen as they were made, as the wires have nothing.
pub returns : goal.returns
returns c =
    let chip = c.args.chip.now in
    let made = c.in_ok-beside.ensures in
    rw (
      c.in_ok-parts.ensures,
      made.wires,
      made.landings,
      made.flits,
      new_parts-seen (wires_of chip.links) chip c.args.kind c.args.rooms.now,
    ) refl
