use Rattle.std.proofs.Common.{append_assoc}
use Rattle.aeth_components.proofs.MadeParts.{made_stages-more}
use Rattle.aeth_components.specs.Making.{link_stages, made_stages}
use Rattle.aeth_components.proofs.making.push_stages.Goals as goal

-- The stages of one link more.
pub loop-number-preserved : goal.loop-number-preserved
loop-number-preserved c =
    let links = c.args.chip.now.links in
    let number = c.loop-number.number in
    let more = made_stages-more links number in
    let regroup = append_assoc c.args.parts.now.items (made_stages links number)
    (link_stages links number) in
    cc c.in_ok-push_link.ensures
