use Rattle.std.proofs.Common.{◌∙◌, ap, arith}
use Rattle.aeth_running.{specs.Network.NetworkState, proofs.Played.stepped-time}
use Rattle.aeth_network.proofs.CarriedLemmas.{counts-on}
use Rattle.aeth_network.proofs.Skipped.{played-behind, skipped-cycles, skipped-time}
use Rattle.aeth_network.proofs.simulating.advance.Goals as goal

-- The run has one more cycle.
pub cycle_counted-requires-clause-time : goal.cycle_counted-requires-clause-time
cycle_counted-requires-clause-time g c =
    let time = skipped-time c.args.network.now c.skip.new.self c.args.next c.requires.next.from
    c.skip.ensures.played in
    let cycles = skipped-cycles c.args.network.now c.skip.new.self _ c.skip.ensures.played in
    let within = c.requires.within in
    omega (arith, time, cycles, within)

-- It is done.
pub returns-clause-time : goal.returns-clause-time
returns-clause-time g c =
    let time = skipped-time c.args.network.now c.skip.new.self c.args.next c.requires.next.from
    c.skip.ensures.played in
    let more = ap (λ (all : NetworkState). all.time) c.cycle_counted.ensures.steps
    ∙ stepped-time c.skip.new.self in
    omega (arith, time, more)

pub returns-clause-played : goal.returns-clause-played
returns-clause-played g c =
    played-behind c.args.network.now c.skip.new.self c.cycle_counted.new.self c.args.next
    c.requires.next.from c.skip.ensures.played c.cycle_counted.ensures.steps

-- Cycles that are passed over cost nothing.
pub returns-clause-counted : goal.returns-clause-counted
returns-clause-counted g c =
    counts-on c.args.network.now c.skip.new.self c.cycle_counted.new.self c.args.next
    c.args.steps.now c.cycle_counted.new.steps c.requires.next.from (returns-clause-played g c)
    c.skip.ensures.wires c.cycle_counted.ensures.counted
