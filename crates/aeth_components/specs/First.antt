-- The first cycle of a stretch.
--
--   IsFirst      the first cycle in which something holds
--   HasSender      a component sends something of its own
--
-- This project's own.
use Rattle.std.proofs.Common.{◌≡◌, ◌≤◌, ◌<◌, ℕ, List, Some, slice_get, true}
use Rattle.aeth_router.specs.declared.part.Part.{Part}
use Rattle.aeth_components.specs.FlitsOnWires.{sends_own}

-- The first cycle from one on, and below another, in which something holds; the other where it holds
-- in none.
pub record IsFirst (Holds : ℕ → Type 0) (from to cycle : ℕ) : Type 0 where
  pub least : from ≤ cycle
  pub most : cycle ≤ to
  pub before : (other : ℕ) → from ≤ other → other < cycle → Holds other → ⊥
  pub holds : cycle < to → Holds cycle

-- A component sends something of its own in a cycle.
pub record HasSender (parts : List Part) (cycle : ℕ) : Type 0 where
  pub number : ℕ
  pub part : Part
  pub at : slice_get parts number ≡ Some part
  pub sends : sends_own cycle part ≡ true
