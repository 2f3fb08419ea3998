use Rattle.std.proofs.Common.{◌∙◌, List, ap, slice_get}
use Rattle.aeth_components.specs.Wirings.{Wiring}
use Rattle.aeth_hardware_tests.proofs.RowLemmas.{routers-at}
use Rattle.aeth_hardware_tests.proofs.pair.pair_of.Goals as goal

-- Writes change no wires.
pub returns-clause-first : goal.returns-clause-first
returns-clause-first c =
    ap (λ (wirings : List Wiring). slice_get wirings 2) (c.write.ensures ∙ c.in_ok-pair.ensures)
    ∙ (routers-at c.args.chip.now _ c.requires.nis c.requires.routers).0

pub returns-clause-second : goal.returns-clause-second
returns-clause-second c =
    ap (λ (wirings : List Wiring). slice_get wirings 3) (c.write.ensures ∙ c.in_ok-pair.ensures)
    ∙ (routers-at c.args.chip.now _ c.requires.nis c.requires.routers).1
