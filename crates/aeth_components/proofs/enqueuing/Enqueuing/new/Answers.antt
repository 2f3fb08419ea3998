use Rattle.std.proofs.Common.{◌<◌, arith, subst, sym}
use Rattle.std.proofs.lemmas.{List.Elements.All-replicate, Option.slice_get_within}
use Rattle.std.specs.List.{All}
use Rattle.aeth_base.specs.Marks.{room_of}
use Rattle.aeth_components.specs.Homes.{home_count}
use Rattle.aeth_components.proofs.enqueuing.Enqueuing.new.Goals as goal

-- All channels are marked, and none waits.
pub returns : goal.returns
returns c = λ parts channel_states count.
    let enqueuing = c.in_ok-all.field-0 in
    let room = c.in_ok-all.ensures.room in
    record {
      room = omega (arith, count, room);
      places = record {
        waiting = c.in_ok-none.ensures.room;
        size = (
            let size = c.in_ok-vec.ensures.len in
            let own = c.in_ok-vec.field-0.ok.0 in
            omega (arith, size, own));
        within = subst (All (λ number. number < room_of enqueuing))
            (sym (c.in_ok-vec.ensures.items_if_clones_equal (λ y same. same)))
            (All-replicate (λ number. number < room_of enqueuing) home_count 0
            (omega (arith, room)));
      };
      rests = λ number channel_state at unmarked.
          let within = slice_get_within channel_states number channel_state at in
          let is = c.in_ok-all.ensures.marked number (omega (arith, within, count, room)) in
          absurd (omega (arith, is, unmarked));
    }
