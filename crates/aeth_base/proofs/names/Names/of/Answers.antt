use Rattle.std.proofs.Common.{ℕ, List, subst}
use Rattle.aeth_base.specs.Names.{HaveFirstPlaces}
use Rattle.aeth_base.proofs.names.Names.of.Goals as goal

-- The places are those of the list.
pub invariant_of-result : goal.invariant_of-result
invariant_of-result c =
    subst (λ (names : List (List ℕ)). HaveFirstPlaces names c.in_ok-places.places) c.deref.ensures.value
    c.in_ok-places.ensures
