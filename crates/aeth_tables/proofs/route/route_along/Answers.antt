use Rattle.std.proofs.Common.{◌≡◌, ◌∙◌, ◌+◌, ◌-◌, ℕ, List, drop, map, ap, arith}
use Rattle.aeth_base.specs.declared.ids.LinkId.{LinkId}
use Rattle.aeth_header.specs.Route.{route_of}
use Rattle.aeth_tables.{specs.Routes.port_of, proofs.PortLaws.drop-end, proofs.PortLaws.route-more}
use Rattle.aeth_tables.proofs.route.route_along.Goals as goal

-- One more link.
pub loop-place-preserved : goal.loop-place-preserved
loop-place-preserved c =
    let chip = c.args.chip.now in
    let path = c.args.path.now in
    let place = c.loop-place.place - 1 in
    let on : place + 1 ≡ c.loop-place.place = omega (arith, c.loop-place-test.true) in
    let so_far = c.loop-place.invariant.route ∙ ap (λ (i : ℕ).
    route_of (map (port_of chip.links) (drop i path))) (omega (arith, on)) in
    record {
      route = route-more chip c.requires.chip path c.requires.sent place c.link.result
          c.port_of.result c.loop-place.route (omega (arith, c.loop-place-test.true))
          (omega (arith, c.len-place.ensures.len, c.len-place.ensures.most)) c.link.ensures
          c.port_of.ensures.port so_far;
      some = omega (arith, c.loop-place-test.true);
    }

-- All links but the first.
pub returns : goal.returns
returns c =
    c.loop-place.invariant.route
    ∙ ap (λ (links : List LinkId). route_of (map (port_of c.args.chip.now.links) links))
    (drop-end c.args.path.now c.loop-place.place c.loop-place-test.false
    c.loop-place.invariant.some)
