use Rattle.aeth_explain.specs.{Cuts.begins_with, Places.AreWithin}
use Rattle.aeth_explain.proofs.places.is_covered.Given as goal

-- The lists with which the path begins are among those that are left.
abbrev pub invariant-loop-i : goal.invariant-loop-i
invariant-loop-i l =
    AreWithin (λ cut. begins_with cut l.path) l.cuts (record { from = l.i; to = l.fn.places.to })
