use Rattle.std.proofs.Common.{◌≡◌, ◌<◌, ℕ, Some, slice_get}
use Rattle.aeth_group.specs.declared.grant.Grant.{Grant}
use Rattle.aeth_audit.specs.{Judging.IsOpenAt, declared.places.Place.Place}
use Rattle.aeth_audit.proofs.judge.Judge.find.Given as goal

-- None of the places so far is open.
abbrev pub invariant-loop-place : goal.invariant-loop-place
invariant-loop-place l = (k : ℕ) (place : Place) (grant : Grant) → k < l.place-index
    → slice_get l.at k ≡ Some place → slice_get l.self.plan.now.grants place.grant ≡ Some grant
    → IsOpenAt l.self l.row.cycle place grant → ⊥
