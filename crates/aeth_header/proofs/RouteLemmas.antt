-- Laws of routes, as numbers and as lists of output ports.
use Rattle.std.proofs.Common.{ℕ, zero, suc, ◌+◌, ◌*◌, ◌/◌, ◌%◌, ◌^◌, ◌<◌, ◌≤◌, ◌≡◌, List, [], ◌∷◌}
use Rattle.std.proofs.Common.{All, length, drop, sym, ap, ◌∙◌, lit<, arith, pow-add, shr-shr}
use Rattle.std.proofs.lemmas.List.Elements.{All-head, All-tail}
use Rattle.std.proofs.Math.{Nat.zero-div, Pow.pow_mono}
use Rattle.aeth_header.specs.Layout.{port_bits, route_ports, route_bits}
use Rattle.aeth_header.specs.Route.{IsPort, route_of}

-- The first port of a route is its lowest.
pub route_of-mod : (port : ℕ) (ports : List ℕ) → IsPort port
    → route_of (port ∷ ports) % 2 ^ port_bits ≡ port
route_of-mod port ports fits = omega arith

-- Behind its first port a route is that of the other ports.
pub route_of-div : (port : ℕ) (ports : List ℕ) → IsPort port
    → route_of (port ∷ ports) / 2 ^ port_bits ≡ route_of ports
route_of-div port ports fits = omega arith

-- One port more takes its bits more.
bits-suc : (count : ℕ) → 2 ^ (port_bits * suc count) ≡ 2 ^ (port_bits * count) * 2 ^ port_bits
bits-suc count =
    ap (λ (bits : ℕ). 2 ^ bits) (omega arith) ∙ pow-add 2 (port_bits * count) port_bits

-- A route takes the bits of its ports.
pub route_of-below : (ports : List ℕ) → All IsPort ports
    → route_of ports < 2 ^ (port_bits * length ports)
route_of-below [] fit = lit< tt
route_of-below (port ∷ ports) fit =
    let first_fits : IsPort port = All-head IsPort port ports fit in
    let others = route_of-below ports (All-tail IsPort port ports fit) in
    rw (bits-suc (length ports)) (omega arith)

-- A route that is short enough fits its field.
pub route_of-fits : (ports : List ℕ) → All IsPort ports → length ports ≤ route_ports
    → route_of ports < 2 ^ route_bits
route_of-fits ports fit short =
    let below = route_of-below ports fit in
    let bits : port_bits * length ports ≤ route_bits = omega arith in
    omega (arith, pow_mono bits)

-- Behind some ports a route is that of the ports left.
pub route_of-drop : (i : ℕ) (ports : List ℕ) → All IsPort ports
    → route_of ports / 2 ^ (port_bits * i) ≡ route_of (drop i ports)
route_of-drop zero ports fit = omega arith
route_of-drop (suc i) [] fit = zero-div (2 ^ (port_bits * suc i))
route_of-drop (suc i) (port ∷ ports) fit =
    let first_fits = All-head IsPort port ports fit in
    let others = route_of-drop i ports (All-tail IsPort port ports fit) in
    let shape : port_bits * suc i ≡ port_bits + port_bits * i = omega arith in
    ap (λ (bits : ℕ). route_of (port ∷ ports) / 2 ^ bits) shape
    ∙ sym (shr-shr (route_of (port ∷ ports)) port_bits (port_bits * i))
    ∙ ap (λ (route : ℕ). route / 2 ^ (port_bits * i)) (route_of-div port ports first_fits)
    ∙ others
