use Rattle.std.proofs.Common.{◌≡◌, ◌≤◌, ◌∙◌, ◌<◌, ◌+◌, ◌-◌, ◌*◌, ap, arith, refl, subst, sym}
use Rattle.aeth_components.specs.FlitsOnWires.{flits_on}
use Rattle.aeth_running.specs.Network.{played}
use Rattle.aeth_network.specs.Carried.{carried_in}
use Rattle.aeth_network.proofs.Playing.{done-of, played-none}
use Rattle.aeth_network.proofs.CarriedLemmas.{counts-end, counts-further}
use Rattle.aeth_network.proofs.Skipped.{played-further, skipped-cycles}
use Rattle.aeth_network.proofs.simulating.simulate_counted.Goals as goal

-- None is played yet.
pub cycles-init : goal.cycles-init
cycles-init g c =
    let none = played-none (c.args.network.now.time - c.args.network.now.time) c.args.network.now
    (omega arith) in
    record {
      is = sym none;
      least = omega arith;
      cycles = refl;
      parts = refl;
      next = c.next_busy-next.ensures.next;
      counted = omega arith;
    }

-- The cycles up to the next busy one, and it, are played.
pub cycles-preserved : goal.cycles-preserved
cycles-preserved g c =
    let first = c.args.network.now in
    let old = c.cycles.network in
    let new = c.advance-next.new.network in
    let did = c.advance-next.ensures in
    let time = did.time in
    let least = c.cycles.invariant.least in
    let from = c.cycles.invariant.next.from in
    let end : c.cycles.next + 1 ≡ new.time = sym time in
    record {
      is = played-further first old new (c.cycles.next + 1) least (omega arith)
          c.cycles.invariant.is did.played
          ∙ ap (λ n. played (n - first.time) first) end;
      least = omega arith;
      cycles = skipped-cycles old new _ did.played ∙ c.cycles.invariant.cycles;
      parts = did.parts ∙ c.cycles.invariant.parts;
      next = did.next;
      counted = subst (λ n. c.advance-next.new.steps + 2 * flits_on new.components.wires
          ≤ c.args.steps.now + 2 * flits_on first.components.wires
          + 4 * carried_in (n - first.time) first) end
          (counts-further first old (c.cycles.next + 1) c.args.steps.now
          (flits_on new.components.wires) c.cycles.steps c.advance-next.new.steps least
          (omega arith) c.cycles.invariant.is c.cycles.invariant.counted did.counted);
    }

-- Fewer cycles are left.
pub cycles-smaller : goal.cycles-smaller
cycles-smaller g c =
    let old = c.cycles.network in
    let new = c.advance-next.new.network in
    let did = c.advance-next.ensures in
    let time = did.time in
    let cycles = skipped-cycles old new _ did.played in
    let from = c.cycles.invariant.next.from in
    let end = c.cycles-in-cycles.ensures in
    let early = c.cycles-test.true in
    let less : new.log.cycles - new.time < old.log.cycles - old.time = omega arith in
    less

-- All are played.
pub returns-clause-played : goal.returns-clause-played
returns-clause-played g c =
    let first = c.args.network.now in
    let same = c.cycles.invariant.cycles in
    let most = c.cycles.invariant.next.to in
    let late = c.cycles-test.false in
    let now = c.cycles-in-cycles.ensures in
    let end : c.cycles.next ≡ first.log.cycles = omega arith in
    played-further first c.cycles.network c.skip.new.self c.cycles.next c.cycles.invariant.least
    c.cycles.invariant.next.from c.cycles.invariant.is c.skip.ensures.played
    ∙ ap (λ n. played (n - first.time) first) end

-- A network of accepted inputs stays theirs, and all their cycles are done.
pub returns-clause-run : goal.returns-clause-run
returns-clause-run g c = λ inputs is.
    done-of inputs c.args.network.now c.skip.new.self (returns-clause-played g c) is

-- So many steps.
pub returns-clause-counted : goal.returns-clause-counted
returns-clause-counted g c =
    let first = c.args.network.now in
    let same = c.cycles.invariant.cycles in
    let most = c.cycles.invariant.next.to in
    let from = c.cycles.invariant.next.from in
    let late = c.cycles-test.false in
    let now = c.cycles-in-cycles.ensures in
    let end : c.cycles.next ≡ first.log.cycles = omega arith in
    counts-end first c.cycles.network first.log.cycles c.args.steps.now c.cycles.steps
    c.cycles.invariant.least (omega arith) c.cycles.invariant.counted
