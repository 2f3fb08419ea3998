use Rattle.std.proofs.Common.{sym, ◌∙◌}
use Rattle.aeth_router.proofs.TableLemmas.{place_from-some}
use Rattle.aeth_router.proofs.entries.place_from.Goals as goal

-- A link that isn't there has no place.
pub returns-in_err-place : goal.returns-in_err-place
returns-in_err-place c =
    c.from_residual-in_err-place.ensures
    ∙ sym c.in_err-place.was
    ∙ place_from-some c.args.links.now c.args.from c.in_ok-from.field-0 c.place_of.result
    c.in_ok-from.was c.place_of.ensures

-- One that is there has the place that was found.
pub returns : goal.returns
returns c =
    sym c.in_ok-place.was
    ∙ place_from-some c.args.links.now c.args.from c.in_ok-from.field-0 c.place_of.result
    c.in_ok-from.was c.place_of.ensures
