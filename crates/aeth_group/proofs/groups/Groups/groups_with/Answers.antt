use Rattle.std.proofs.Common.{◌∙◌, sym}
use Rattle.aeth_group.specs.Members.{is_member}
use Rattle.aeth_group.proofs.Ranges.{counted-fails, counted-passes}
use Rattle.aeth_group.proofs.groups.Groups.groups_with.Goals.{else-member, then-member}
use Rattle.aeth_group.proofs.groups.Groups.groups_with.Goals as goal

-- One more group.
pub loop-g-preserved : goal.loop-g-preserved
loop-g-preserved c = elim c.if-member.branch [
  | then-member w ↦ counted-passes (λ g. is_member c.args.self.now g c.args.c.0) c.loop-g.g
      c.loop-g.groups c.if-member.groups c.loop-g.invariant
      (sym c.member.ensures ∙ w.if-member.true) w.groups-is
  | else-member w ↦ counted-fails (λ g. is_member c.args.self.now g c.args.c.0) c.loop-g.g
      c.loop-g.groups c.if-member.groups c.loop-g.invariant
      (sym c.member.ensures ∙ w.if-member.false) w.groups-is
]
