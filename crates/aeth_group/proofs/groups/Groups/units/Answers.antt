use Rattle.std.proofs.Common.{◌≤◌, subst}
use Rattle.aeth_app.specs.Limits.{max_uses}
use Rattle.aeth_group.{specs.Members.GroupsData, proofs.UnitLemmas.units-more}
use Rattle.aeth_group.proofs.groups.Groups.units.Goals as goal

-- One more connection.
pub loop-c-preserved : goal.loop-c-preserved
loop-c-preserved c =
    let most = subst (λ (groups : GroupsData). groups.count ≤ max_uses) c.self.view_is
    c.self.invariant.0.count in
    units-more c.args.self.now c.loop-c.c c.loop-c.units c.groups_with-units.result
    c.loop-c.invariant c.groups_with-units.ensures.groups c.groups_with-units.ensures.within most
