-- What interfaces send of their own in a cycle.
--
--   IsSending      a component that does
--   Injects      what is on the wires then
--
-- This project's own.
use Rattle.std.proofs.Common.{◌≡◌, ℕ, List, Option, Some, false, length, slice_get, true}
use Rattle.aeth_clocked.specs.{Wires.flit_on, declared.flit.Flit.Flit}
use Rattle.aeth_router.specs.{Part.emit_of, Part.outputs_of, declared.part.Part.Part}
use Rattle.aeth_components.specs.FlitsOnWires.{sends_own}

-- The component of a number sends something of its own in a cycle.
abbrev pub IsSending : ℕ → List Part → ℕ → Type 0
IsSending cycle parts number =
    (part : Part) × (slice_get parts number ≡ Some part) × (sends_own cycle part ≡ true)

-- On the output of each component that does is what it emits, and the outputs of the others are as they
-- were.
pub record Injects (cycle : ℕ) (parts : List Part) (old new : List (Option Flit)) : Type 0 where
  pub size : length new ≡ length old
  pub own : (number wire : ℕ) (part : Part) → slice_get parts number ≡ Some part
      → sends_own cycle part ≡ true → outputs_of part wire ≡ true
      → flit_on new wire ≡ emit_of part cycle wire
  pub other : (number wire : ℕ) (part : Part) → slice_get parts number ≡ Some part
      → sends_own cycle part ≡ false → outputs_of part wire ≡ true
      → flit_on new wire ≡ flit_on old wire
