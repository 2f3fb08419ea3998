-- Cycles in which no wire has a flit, of a network and of the private servers of its run.
use Rattle.std.proofs.Common.{◌≡◌, ◌<◌, ◌+◌, ◌-◌, ◌∙◌, ℕ, [], Option, Some, None, refl, sym, ap}
use Rattle.std.proofs.Common.{arith}
use Rattle.std.specs.Option.{option_to_list}
use Rattle.aeth_base.specs.declared.ids.LinkId.{LinkId}
use Rattle.aeth_chip.specs.{Paths.delay_of, Wires.wire_at}
use Rattle.aeth_clocked.specs.{Wires.flit_on, declared.flit.Flit.Flit}
use Rattle.aeth_report.specs.Carries.{carries}
use Rattle.aeth_invariant.specs.{Carried.Exact, RoutedSessions.flow_at}
use Rattle.aeth_accepted.specs.Inputs.{Inputs, run_of}
use Rattle.aeth_routed_sessions.specs.RoutedSessions.{routed_sessions_of}
use Rattle.aeth_routed_sessions.proofs.PathWires.{wires-place}
use Rattle.aeth_running.proofs.NetworkWires.{nothing-listed}
use Rattle.aeth_running.specs.{Network.first_network, Network.played, Routing.Routing}

module _ (inputs : Inputs) (routing : Routing) where
  -- A wire is that of a link on which a flit is that entered it so many cycles before.
  record IsOnLink (t l : ℕ) : Type 0 where
    link : LinkId
    inner : ℕ
    cycle : ℕ
    short : inner < delay_of inputs.chip.links link
    time : cycle + inner ≡ t
    is : wire_at inputs.chip.links link.0 inner ≡ l

  -- A wire with a flit is.
  on-link : (t : ℕ) (wires : ℕ → Option Flit) → Exact (routed_sessions_of inputs) t wires → (l : ℕ)
      (flit : Flit) → wires l ≡ Some flit → IsOnLink t l
  on-link t wires exact l flit has =
      let comes = exact.only l flit has in
      let of = wires-place inputs.chip.links (flow_at (routed_sessions_of inputs) comes.number).path
      comes.place l
      comes.on.place in
      let index = of.index in
      let time = comes.on.time in
      record {
        link = of.link;
        inner = of.inner;
        cycle = t - of.inner;
        short = of.short;
        time = omega arith;
        is = of.is;
      }

  module _ (behind : (link : LinkId) (k : ℕ) → k < delay_of inputs.chip.links link → (t : ℕ)
      → t + k < inputs.cycles
      → option_to_list (flit_on (played (t + k + 1) (first_network inputs routing)).components.wires
      (wire_at inputs.chip.links link.0 k)) ≡ carries (run_of inputs) link.0 t) where
    -- Where no link has a flit on its way the wires have none.
    pub no-flits : (t : ℕ) → t < inputs.cycles
        → Exact (routed_sessions_of inputs) t
        (flit_on (played (t + 1) (first_network inputs routing)).components.wires)
        → ((link : LinkId) (j u : ℕ) → j < delay_of inputs.chip.links link → u + j ≡ t
        → carries (run_of inputs) link.0 u ≡ [])
        → (l : ℕ) → flit_on (played (t + 1) (first_network inputs routing)).components.wires l ≡ None
    no-flits t early exact none l =
        let wires = flit_on (played (t + 1) (first_network inputs routing)).components.wires in
        let cases : (flit : Option Flit) → wires l ≡ flit → flit ≡ None = elim [
          | None ↦ λ is. refl
          | Some flit ↦ λ is.
              let on = on-link t wires exact l flit is in
              let time = on.time in
              let next : on.cycle + on.inner + 1 ≡ t + 1 = omega arith in
              let listed : option_to_list (wires l) ≡ [] =
              (λ i. option_to_list (flit_on (played (sym next i) (first_network inputs routing)).components.wires
              (sym on.is i))) ∙ behind on.link on.inner on.short on.cycle (omega arith)
              ∙ none on.link on.inner on.cycle on.short time in
              sym is ∙ nothing-listed (wires l) listed
        ] in
        cases (wires l) refl

    -- And where the wires have none, no link has.
    pub no-carries : (t : ℕ) → t < inputs.cycles
        → ((l : ℕ) → flit_on (played (t + 1) (first_network inputs routing)).components.wires l ≡ None)
        → (link : LinkId) (j u : ℕ) → j < delay_of inputs.chip.links link → u + j ≡ t
        → carries (run_of inputs) link.0 u ≡ []
    no-carries t early none link j u short time =
        let next : u + j + 1 ≡ t + 1 = omega arith in
        sym (behind link j short u (omega arith))
        ∙ (λ i. option_to_list (flit_on (played (next i) (first_network inputs routing)).components.wires
        (wire_at inputs.chip.links link.0 j)))
        ∙ ap option_to_list (none (wire_at inputs.chip.links link.0 j))
