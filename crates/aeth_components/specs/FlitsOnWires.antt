-- How many flits there are, and which components send something of their own.
--
--   flits_on      how many wires have a flit
--   sends_own, AreSendersMarked      who sends something of its own in a cycle
--
-- This project's own.
use Rattle.std.proofs.Common.{◌≡◌, ℕ, List, Option, Some, Bool, count_by, false, is_some, slice_get}
use Rattle.std.proofs.Common.{true}
use Rattle.aeth_base.specs.Marks.{bit_of}
use Rattle.aeth_clocked.specs.declared.flit.Flit.{Flit}
use Rattle.aeth_ni.specs.Component.{emitted_by, queue_at_cycle}
use Rattle.aeth_router.specs.declared.part.Part.{Part}
use Rattle.aeth_router.specs.declared.part.Part.TheVariants.{Interface, Router, Stage, TableRouter}

-- How many wires have a flit.
abbrev pub flits_on : List (Option Flit) → ℕ
flits_on wires = count_by is_some wires

-- Whether a component sends something of its own in a cycle, as an interface does from its queues.
abbrev pub sends_own : ℕ → Part → Bool
sends_own cycle (Interface ni) = is_some (emitted_by (queue_at_cycle ni.entries cycle) ni.queues)
sends_own cycle (Router router) = false
sends_own cycle (TableRouter router) = false
sends_own cycle (Stage stage) = false

-- Each component is marked that sends something of its own in a cycle.
abbrev pub AreSendersMarked : ℕ → List Part → List ℕ → Type 0
AreSendersMarked cycle parts marks =
    (number : ℕ) (part : Part) → slice_get parts number ≡ Some part → sends_own cycle part ≡ true
    → bit_of marks number ≡ 1
