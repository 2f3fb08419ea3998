use Rattle.std.proofs.Common.{ℕ, List, ◌∷◌, ◌≡◌, ◌≤◌, ◌-◌, length}
use Rattle.aeth_slots.specs.Ways.{IsRound}
use Rattle.aeth_slots.proofs.choice.first_member.Given as goal

-- No round over so many slots starts earlier.
abbrev pub invariant-loop-first : goal.invariant-loop-first
invariant-loop-first l = (way : List ℕ) (start : ℕ) → IsRound l.free l.gap (start ∷ way)
    → length way ≡ l.more → l.first ≤ start

-- The starts that are left.
abbrev pub decreases-loop-first : goal.decreases-loop-first
decreases-loop-first l = l.size - l.first
