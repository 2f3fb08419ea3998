use Rattle.std.proofs.Common.{◌∙◌, ap, map}
use Rattle.aeth_components.proofs.KindLemmas.{wirings-kind}
use Rattle.aeth_components.specs.{Wirings.wiring_of, declared.making.RouterKind.TheVariants.ByTable}
use Rattle.aeth_hardware_tests.proofs.pair.routed.Goals as goal

-- Routers of either kind have the same wires.
pub returns-then-enter : goal.returns-then-enter
returns-then-enter c =
    c.enter.ensures ∙ ap (map wiring_of) c.in_ok-pair.ensures
    ∙ wirings-kind c.args.chip.now ByTable c.args.rooms.now
