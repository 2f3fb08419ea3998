use Rattle.std.proofs.Common.{◌≡◌, ◌+◌, ◌++◌, ◌∙◌, List, ap, arith, length, refl, subst, sym}
use Rattle.std.proofs.Common.{append-nil}
use Rattle.aeth_audit.specs.declared.row.LinkRow.{LinkRow}
use Rattle.aeth_accepted.specs.Inputs.{run_of}
use Rattle.aeth_chip.specs.Chip.{ChipData}
use Rattle.aeth_network.specs.Runs.{AreWiresOf}
use Rattle.aeth_running.{proofs.Played.stepped-time, specs.Network.NetworkState}
use Rattle.aeth_links.specs.{Carried.lines_of, Seen.rows_seen}
use Rattle.aeth_links.proofs.NetworkLemmas.{cycles-of, rows_before, rows_before-next, seen-carried}
use Rattle.aeth_links.proofs.NetworkLemmas.{wires-enough}
use Rattle.aeth_links.proofs.text.push_cycles.Goals as goal

-- No cycle is done.
pub loop-cycle-init : goal.loop-cycle-init
loop-cycle-init c =
    record {
      text = sym (append-nil c.args.text.now.items);
      network = c.requires.network;
      time = c.requires.first;
      parts = refl;
      within = omega arith;
    }

-- The order is of all components, in a cycle of the run.
pub cycle-requires-clause-order : goal.cycle-requires-clause-order
cycle-requires-clause-order c = c.requires.order ∙ sym c.loop-cycle.invariant.parts

pub cycle-requires-clause-time : goal.cycle-requires-clause-time
cycle-requires-clause-time c =
    let inputs = c.args.inputs.now in
    let cycles = cycles-of inputs c.loop-cycle.network c.loop-cycle.invariant.network in
    let time = c.loop-cycle.invariant.time in
    let early = c.loop-cycle-test.true in
    let end = c.cycles-cycle-end.ensures in
    omega arith

-- Each link has a wire.
pub push_rows-requires : goal.push_rows-requires
push_rows-requires c =
    let inputs = c.args.inputs.now in
    let before = c.loop-cycle.invariant.network in
    let network = c.cycle.ensures.run inputs before in
    let enough = wires-enough inputs c.cycle.new.self network
    (c.networks_run.ensures inputs before.accepted c.cycle.new.self.routing network.routed) in
    let links = c.links-links.ensures.links in
    let chip = ap (λ (chip : ChipData). length chip.links) c.chip.ensures in
    let wires = ap length c.wires.ensures.wires in
    omega arith

-- The lines of one cycle more stand in the text.
pub loop-cycle-preserved : goal.loop-cycle-preserved
loop-cycle-preserved c =
    let inputs = c.args.inputs.now in
    let run = run_of inputs in
    let old = c.loop-cycle.network in
    let new = c.cycle.new.self in
    let cycle = c.loop-cycle.cycle in
    let wires = c.wires.result.now in
    let text = c.loop-cycle.text.items in
    let before = c.loop-cycle.invariant in
    let network = c.cycle.ensures.run inputs before.network in
    let steps : new.time ≡ old.time + 1 =
    ap (λ (all : NetworkState). all.time) c.cycle.ensures.steps ∙ stepped-time old in
    let was = before.time in
    let time : new.time ≡ cycle + 1 = omega arith in
    let are = subst (λ n. AreWiresOf inputs n wires) time (c.wires.ensures.run inputs network) in
    let links = c.links-links.ensures.links
    ∙ ap (λ (chip : ChipData). length chip.links) c.chip.ensures in
    let seen = ap (λ n. rows_seen wires n cycle) links ∙ seen-carried inputs cycle wires are in
    let early = c.loop-cycle-test.true in
    let end = c.cycles-cycle-end.ensures in
    record {
      text = c.in_ok-push_rows.ensures
          ∙ ap (λ (rows : List LinkRow). text ++ lines_of rows) seen
          ∙ rows_before-next run c.args.text.now.items text cycle
          before.text;
      network = network;
      time = time;
      parts = c.cycle.ensures.parts ∙ before.parts;
      within = omega arith;
    }

-- All cycles are done.
pub returns : goal.returns
returns c =
    let inputs = c.args.inputs.now in
    let past = c.loop-cycle-test.false in
    let end = c.cycles-cycle-end.ensures in
    let within = c.loop-cycle.invariant.within in
    let all : c.loop-cycle.cycle ≡ inputs.cycles = omega arith in
    c.loop-cycle.invariant.text
    ∙ ap (λ n. c.args.text.now.items ++ lines_of (rows_before (run_of inputs) n)) all
