use Rattle.std.proofs.Common.{◌∙◌, Bool, ap, arith, length, nat_lt, sym, le-ltb}
use Rattle.std.proofs.lemmas.List.Folds.{list_all_at}
use Rattle.std.proofs.lemmas.Option.{get_or_from_slice_get, slice_get_within}
use Rattle.aeth_base.specs.declared.ids.LinkId.{LinkId}
use Rattle.aeth_chip.proofs.chip.Chip.has_links.Goals as goal

-- This link is none of the chip's.
pub returns-then-link-links : goal.returns-then-link-links
returns-then-link-links c =
    let path = c.args.path.now in
    let i = c.loop-i.i in
    let link = c.link.result in
    let test : LinkId → Bool = λ link. nat_lt link.0 (length c.args.self.now.links) in
    sym (list_all_at test path i link (slice_get_within path i link c.link.ensures)
    (ap test (get_or_from_slice_get path i link link c.link.ensures)
    ∙ le-ltb _ _ (omega (arith, c.if-link-links.true, c.links.ensures.links))))
