-- The flit of a flow moves on by one hop at each place of its path.
use Rattle.std.proofs.Common.{◌≡◌, ◌∙◌, ℕ, ◌+◌, ◌*◌, ◌/◌, ◌^◌, sym, ap, arith, pow-add}
use Rattle.std.proofs.Math.Nat.{div-div-eq-div-mul, div-le_self}
use Rattle.aeth_header.specs.{Header.IsPackable, Header.next_word, Header.word_of, Layout.port_bits}
use Rattle.aeth_header.proofs.HeaderLemmas.{next_word-word_of}
use Rattle.aeth_server.proofs.PrivateServerLemmas.{fits-flit}
use Rattle.aeth_report.specs.Carries.{IsSendable, flit_at, header_at, returns, sends}
use Rattle.aeth_report.specs.Flows.{Flow}

-- One place on is one port less.
place-on : (route i : ℕ)
    → route / 2 ^ (port_bits * i) / 2 ^ port_bits ≡ route / 2 ^ (port_bits * (i + 1))
place-on route i =
    let times : port_bits * (i + 1) ≡ port_bits * i + port_bits = omega arith in
    div-div-eq-div-mul route (2 ^ (port_bits * i)) (2 ^ port_bits)
    ∙ ap (λ n. route / n) (sym (pow-add 2 (port_bits * i) port_bits))
    ∙ ap (λ n. route / 2 ^ n) (sym times)

-- The header of a flow's flit fits its fields.
pub header_at-packable : (flow : Flow) → IsSendable flow → (i u : ℕ)
    → IsPackable (header_at flow i u)
header_at-packable flow sendable i u =
    let less = div-le_self flow.route (2 ^ (port_bits * i)) in
    let words = (fits-flit flow.server sendable.paths u).words in
    let credits = (fits-flit flow.back sendable.back_paths u).credits in
    record {
      route = omega arith;
      queue = sendable.remote;
      credits = omega arith;
      count = omega arith;
    }

-- At the next place it has moved on by one hop.
pub flit_at-next : (flow : Flow) → IsSendable flow → (i u : ℕ)
    → (flit_at flow (i + 1) u).header ≡ next_word (flit_at flow i u).header
flit_at-next flow sendable i u =
    sym (next_word-word_of (header_at flow i u) (header_at-packable flow sendable i u)
    ∙ ap (λ (r : ℕ). word_of (record {
      route = r;
      queue = flow.remote;
      credits = returns flow u;
      count = sends flow u;
    })) (place-on flow.route i))
