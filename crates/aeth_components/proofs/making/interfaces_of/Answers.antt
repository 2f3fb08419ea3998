use Rattle.std.proofs.{Common.arith, lemmas.List.FromFn.map-range_with_len_more}
use Rattle.aeth_components.specs.Making.{made_interface}
use Rattle.aeth_components.proofs.making.interfaces_of.Goals as goal

-- One interface more.
pub loop-number-preserved : goal.loop-number-preserved
loop-number-preserved c =
    let more = map-range_with_len_more (made_interface c.args.chip.now c.args.rooms.now) 0
    c.loop-number.number c.loop-number.number (omega arith) in
    cc (c.in_ok-push.ensures.items, c.in_ok-interface_of.ensures)
