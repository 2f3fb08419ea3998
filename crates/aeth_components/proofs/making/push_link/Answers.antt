use Rattle.std.proofs.Common.{arith, append_assoc, map, ◌∷◌, []}
use Rattle.std.proofs.lemmas.List.FromFn.{map-range_with_len_more}
use Rattle.std.specs.List.{range_with_len}
use Rattle.aeth_components.specs.Making.{made_stage}
use Rattle.aeth_components.proofs.making.push_link.Goals as goal

-- One stage more.
pub loop-place-preserved : goal.loop-place-preserved
loop-place-preserved c =
    let links = c.args.chip.now.links in
    let link = c.args.link.0 in
    let place = c.loop-place.place in
    let more = map-range_with_len_more (made_stage links link) 0 place place (omega arith) in
    let regroup = append_assoc c.args.parts.now.items
    (map (made_stage links link) (range_with_len 0 place)) (made_stage links link place ∷ []) in
    cc (c.in_ok-push.ensures.items, c.stage_of.ensures)
