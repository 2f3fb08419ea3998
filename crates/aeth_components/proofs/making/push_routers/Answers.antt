use Rattle.std.proofs.Common.{arith, append_assoc, map, ◌∷◌, []}
use Rattle.std.proofs.lemmas.List.FromFn.{map-range_with_len_more}
use Rattle.std.specs.List.{range_with_len}
use Rattle.aeth_components.specs.Making.{made_router}
use Rattle.aeth_components.proofs.making.push_routers.Goals as goal

-- One router more.
pub loop-number-preserved : goal.loop-number-preserved
loop-number-preserved c =
    let chip = c.args.chip.now in
    let kind = c.args.kind in
    let number = c.loop-number.number in
    let more = map-range_with_len_more (made_router chip kind) 0 number number (omega arith) in
    let regroup = append_assoc c.args.parts.now.items
    (map (made_router chip kind) (range_with_len 0 number)) (made_router chip kind number ∷ []) in
    cc (c.in_ok-push.ensures.items, c.in_ok-router_of.ensures)
