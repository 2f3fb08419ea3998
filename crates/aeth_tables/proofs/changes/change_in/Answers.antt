use Rattle.std.proofs.Common.{All, List, sym, subst}
use Rattle.aeth_base.specs.declared.ids.Side.TheVariants.{Back, Fwd}
use Rattle.aeth_group.specs.declared.grant.Grant.{Grant}
use Rattle.aeth_tables.{specs.Changes.HasLinks, proofs.GrantedLists.found_links}
use Rattle.aeth_tables.proofs.changes.change_in.Goals as goal

-- The paths of the grants are those of the chip.
pub change_with-requires-clause-fwd : goal.change_with-requires-clause-fwd
change_with-requires-clause-fwd c =
    found_links c.args.chip.now c.grants.result.now
    (subst (λ (grants : List Grant). All (HasLinks c.args.chip.now) grants) (sym c.grants.ensures)
    c.requires.links) Fwd _ _ c.grants_of.ensures.fwd

pub change_with-requires-clause-back : goal.change_with-requires-clause-back
change_with-requires-clause-back c =
    found_links c.args.chip.now c.grants.result.now
    (subst (λ (grants : List Grant). All (HasLinks c.args.chip.now) grants) (sym c.grants.ensures)
    c.requires.links) Back _ _ c.grants_of.ensures.back
