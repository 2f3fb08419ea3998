-- What the flits that a router holds send to its output ports.
-- Source routing by output ports: after Æthereal (2005). That a port which two flits name carries
-- neither: this project's own.
use Rattle.std.proofs.Common.{ℕ, ◌==◌, if◌then◌else◌, Option, Some, None, List, [], ◌∷◌, filter_map}
use Rattle.aeth_clocked.specs.declared.flit.Flit.{Flit}
use Rattle.aeth_header.specs.Header.{port_of, next_word}

-- The flit behind a hop: its header has moved on by one port, and its words are as they were.
abbrev pub hopped : Flit → Flit
hopped flit = record flit { header = next_word flit.header }

-- What a held flit sends to a port: itself behind its hop, where it names the port.
abbrev pub toward : ℕ → Option Flit → Option Flit
toward port None = None
toward port (Some flit) = if port_of flit.header == port then Some (hopped flit) else None

-- The flits for a port, each behind its hop, in the order in which they are held.
abbrev pub flits_for : ℕ → List (Option Flit) → List Flit
flits_for port held = filter_map (toward port) held

-- The one member of a list; none where it has no member, or more than one.
abbrev pub sole : List Flit → Option Flit
sole [] = None
sole (flit ∷ []) = Some flit
sole (flit ∷ other ∷ flits) = None
