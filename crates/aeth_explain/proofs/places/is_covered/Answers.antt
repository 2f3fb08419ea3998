use Rattle.std.proofs.Common.{arith, sym}
use Rattle.aeth_explain.{specs.Cuts.begins_with, proofs.PlaceLemmas.none-within}
use Rattle.aeth_explain.proofs.places.is_covered.Goals as goal

-- No list is left.
pub returns : goal.returns
returns c =
    sym (none-within (λ cut. begins_with cut c.args.path.now) c.args.cuts.now
    (record { from = c.loop-i.i; to = c.args.places.to }) c.loop-i.invariant
    (omega (arith, c.loop-i-test.false, c.loop-i.auto.i-end)))
