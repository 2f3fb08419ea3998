use Rattle.std.proofs.Common.{◌∙◌, ◌-◌, drop, sym, subst, arith}
use Rattle.aeth_check.specs.Routes.{HasPlaces}
use Rattle.aeth_check.proofs.PlaceLaws.{comes_again, ends_elsewhere, leads_to, put_place}
use Rattle.aeth_check.proofs.routes.follows.Goals.{then-not-ends_at-via-then-not-ends_at}
use Rattle.aeth_check.proofs.routes.follows.Goals.{then-not-ends_at-via-else-not-ends_at+then-not-is_fresh}
use Rattle.aeth_check.proofs.routes.follows.Goals as goal

-- The link ends elsewhere, or the path comes back.
pub returns-then-not-ends_at : goal.returns-then-not-ends_at
returns-then-not-ends_at c = elim c.then-not-ends_at.branch [
  | then-not-ends_at-via-then-not-ends_at w ↦
      ends_elsewhere c.args.chip.now.links c.args.b c.args.path.now c.links.left c.link.result
      c.link-link.result c.links.next c.links-test.true c.link.ensures c.link-link.ensures.link
      c.links.invariant.goes c.args.a (sym c.ends_at.ensures ∙ w.if-not-ends_at.true)
  | then-not-ends_at-via-else-not-ends_at+then-not-is_fresh w ↦
      comes_again c.args.chip.now.links c.args.b c.args.path.now c.links.left c.link.result
      c.link-link.result c.links.next c.links-test.true c.link.ensures c.link-link.ensures.link
      c.links.invariant.goes c.args.a (sym w.is_fresh.ensures ∙ w.if-not-is_fresh.true)
]

-- The link leads to where the path goes on.
pub links-preserved : goal.links-preserved
links-preserved c = record {
  within = omega (arith, c.links.invariant.within);
  places = subst (HasPlaces c.args.chip.now.links (drop (c.links.left - 1) c.args.path.now))
      (sym c.put.ensures)
      (put_place c.args.chip.now.links c.args.path.now c.links.routers c.links.left c.link.result
      c.link-link.result c.links-test.true c.link.ensures c.link-link.ensures.link
      c.links.invariant.places);
  goes = leads_to c.args.chip.now.links c.args.b c.args.path.now c.links.left c.link.result
      c.link-link.result c.links.next c.links-test.true c.link.ensures c.link-link.ensures.link
      c.links.invariant.goes (sym c.ends_at.ensures ∙ c.if-not-ends_at.false)
      (sym c.is_fresh.ensures ∙ c.if-not-is_fresh.false);
}
