-- Routes: the output ports that a flit takes, as one number.
-- Source routing by output ports: after Æthereal (2005). The number: this project's own.
use Rattle.std.proofs.Common.{ℕ, ◌+◌, ◌*◌, ◌^◌, ◌<◌, List, [], ◌∷◌}
use Rattle.aeth_header.specs.Layout.{port_bits}

-- An output port fits its bits.
abbrev pub IsPort : ℕ → Type 0
IsPort port = port < 2 ^ port_bits

-- The route of a list of output ports, the first lowest.
abbrev pub route_of : List ℕ → ℕ
route_of [] = 0
route_of (port ∷ ports) = port + route_of ports * 2 ^ port_bits
