-- How components send flits on in every cycle alike, known apart from them.
--
--   wire_for      the wire of a port
--   sent_by      what goes to an output of a flit
--
-- This project's own.
use Rattle.std.proofs.Common.{ℕ, ◌==◌, if◌then◌else◌, List, Option, None, Some, option_and_then}
use Rattle.std.specs.List.{slice_index_or}
use Rattle.aeth_base.specs.declared.ids.LinkId.{LinkId}
use Rattle.aeth_clocked.specs.declared.flit.Flit.{Flit}
use Rattle.aeth_header.specs.Header.{port_of}
use Rattle.aeth_router.specs.Ports.{hopped}
use Rattle.aeth_router.specs.declared.forwarding.Forwarding.{Forwarding}
use Rattle.aeth_router.specs.declared.forwarding.Forwarding.TheVariants.{ByPort, Nowhere, Straight}

-- The wire of a port, if it has one.
abbrev pub wire_for : List (Option LinkId) → ℕ → Option LinkId
wire_for wires port = slice_index_or wires port None

-- What goes to an output of a flit: the flit behind its hop where the output is the wire of the port that it names,
-- or the flit as it is where the output is the one wire.
abbrev pub sent_by : Forwarding → ℕ → Flit → Option Flit
sent_by (ByPort wires) out flit =
    option_and_then (λ wire. if wire.0 == out then Some (hopped flit) else None)
    (wire_for wires (port_of flit.header))
sent_by (Straight wire) out flit = if wire.0 == out then Some flit else None
sent_by Nowhere out flit = None
