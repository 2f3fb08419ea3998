use Rattle.std.proofs.Common.{◌≡◌, ◌≤◌, ◌<◌, ◌+◌, ℕ, fold, length, map, take}
use Rattle.aeth_clocked.specs.Wires.{used_from}
use Rattle.aeth_router.specs.Onward.{CameFrom, arrival_at}
use Rattle.aeth_components.specs.{Counting.counted_among, Counting.flits_counted}
use Rattle.aeth_components.specs.{Counting.noted_among, Injecting.AreInjecting}
use Rattle.aeth_components.specs.{Passing.forwarded_from, Passing.way_of, Seen.flits_landed}
use Rattle.aeth_components.specs.{Seen.interfaces_latched, FlitsOnWires.flits_on}
use Rattle.aeth_components.proofs.ComeLemmas.{came_to}
use Rattle.aeth_components.proofs.landing.land.Given as goal

-- The flits of the wires so far have landed or are passed on, and are counted.
abbrev pub invariant-loop-wire : goal.invariant-loop-wire
invariant-loop-wire g l =
    let wires = l.fn.wires in
    let latched = interfaces_latched wires l.fn.parts in
    record {
      from : ℕ;
      left : l.wire-iterator ≡ used_from wires from;
      within : from ≤ length wires;
      parts : l.parts ≡ flits_landed (take from wires) l.fn.parts;
      injecting : AreInjecting l.parts l.injecting;
      channel_states : l.channels.channel_states
          ≡ map (counted_among (came_to (take from wires) l.fn.parts) l.cycle latched)
          l.fn.channels.channel_states;
      words : l.channels.words ≡ l.fn.channels.words;
      landings : l.counts.landings.items
          ≡ fold (noted_among (came_to (take from wires) l.fn.parts) l.cycle latched)
          l.fn.counts.landings.items l.fn.channels.channel_states;
      flits : l.counts.flits.items ≡ flits_counted (take from wires) l.fn.counts.flits.items;
      all : l.all ≡ flits_on (take from wires);
      size : length l.onward ≡ length wires;
      forwarded : (out : ℕ) → out < length wires → CameFrom
          (forwarded_from l.fn.turns.ends.receivers.items (map way_of l.fn.parts) wires out) from
          (arrival_at l.onward out);
      steps : l.steps ≤ l.fn.steps + flits_on (take from wires);
    }
