-- What is passed on within a cycle of the flits on wires.
--
-- A flit is passed on as soon as it is on a wire, a cycle before it is driven, where that depends on the flit alone. In
-- a router with a table it depends on the cycle, and on rows that may enter until then. So a second walk, in the drive,
-- looks its flits up. Each wire is an input of one component, and no router receives on a wire twice. So the one input
-- that passes anything on decides what is emitted. A wire to which a second flit comes carries none: the first is taken
-- off again when all have come.
--
--   part_at, passed_from      the component at the end of a wire, and what it sends on of what the wire has
--   Way, way_of      how a component passes flits on, and whether it needs to know the cycle for that
--   forwarded_from      what is sent on of what a wire has in every cycle alike
--   AreForwarded      how each component sends flits on, as it is noted
--
-- Components whose state is read off the wires: this project's own.
use Rattle.std.proofs.Common.{◌≡◌, ℕ, Bool, List, Option, Some, length, option_and_then, slice_get}
use Rattle.aeth_clocked.specs.{Wires.flit_on, declared.flit.Flit.Flit}
use Rattle.aeth_router.specs.Forwarding.{sent_by}
use Rattle.aeth_router.specs.Passing.{forwarded, has_table, passed}
use Rattle.aeth_router.specs.declared.{forwarding.Forwarding.Forwarding, part.Part.Part}

-- The component at the end of a wire.
abbrev pub part_at : List ℕ → List Part → ℕ → Option Part
part_at ends parts wire = option_and_then (slice_get parts) (slice_get ends wire)

-- What goes to an output in a cycle of what a wire has: what the component at the end of the wire sends
-- there of it.
abbrev pub passed_from : List ℕ → List Part → List (Option Flit) → ℕ → ℕ → ℕ → Option Flit
passed_from ends parts wires cycle out wire =
    option_and_then (λ part. passed part cycle out wire (flit_on wires wire))
    (part_at ends parts wire)

-- What a component sends on of a flit to each output in every cycle alike, and whether it sends others on by a
-- table.
pub record Way : Type 0 where
  pub sent : ℕ → Option Flit → Option Flit
  pub by_table : Bool

abbrev pub way_of : Part → Way
way_of part = record { sent = forwarded part; by_table = has_table part }

-- What goes to an output in every cycle alike of what a wire has.
abbrev pub forwarded_from : List ℕ → List Way → List (Option Flit) → ℕ → ℕ → Option Flit
forwarded_from ends ways wires out wire =
    option_and_then (λ way. way.sent out (flit_on wires wire))
    (option_and_then (slice_get ways) (slice_get ends wire))

-- For each component it is noted how it sends flits on in every cycle alike.
pub record AreForwarded (ways : List Way) (noted : List Forwarding) : Type 0 where
  pub size : length noted ≡ length ways
  pub at : (number : ℕ) (way : Way) (forwarding : Forwarding) → slice_get ways number ≡ Some way
      → slice_get noted number ≡ Some forwarding
      → (out : ℕ) (flit : Flit) → sent_by forwarding out flit ≡ way.sent out (Some flit)
