use Rattle.std.proofs.Common.{arith}
use Rattle.aeth_components.proofs.MarkLemmas.{AreMarked-all}
use Rattle.aeth_components.proofs.noted.Noted.of.Goals as goal

-- All channels are marked, and no words are noted.
pub returns : goal.returns
returns c =
    let channel_states = c.args.channel_states.now in
    let few = c.requires in
    record {
      idle = AreMarked-all c.in_ok-busy.busy channel_states
          (let room = c.in_ok-busy.ensures.room in omega (arith, few, room))
          c.in_ok-busy.ensures.marked;
      takes = AreMarked-all c.in_ok-taking.taking channel_states
          (let room = c.in_ok-taking.ensures.room in omega (arith, few, room))
          c.in_ok-taking.ensures.marked;
      places = c.in_ok-homes.ensures;
    }
