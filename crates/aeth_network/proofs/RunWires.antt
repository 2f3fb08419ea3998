-- The wires of networks of accepted inputs.
use Rattle.std.proofs.Common.{◌≡◌, ◌≤◌, ◌<◌, ◌+◌, ◌∙◌, ℕ, zero, suc, List, Option, None, Some, ap}
use Rattle.std.proofs.Common.{arith, length, subst, sym}
use Rattle.std.specs.Option.{option_to_list}
use Rattle.aeth_base.specs.declared.ids.LinkId.{LinkId}
use Rattle.aeth_chip.specs.{Paths.delay_of, Wires.wire_at}
use Rattle.aeth_clocked.specs.{Wires.flit_on, declared.flit.Flit.Flit}
use Rattle.aeth_ni.specs.Component.{Arrival, arrival_of}
use Rattle.aeth_report.specs.Carries.{carries}
use Rattle.aeth_invariant.specs.{Carried.IsPassed, RoutedSessions.AtRouter}
use Rattle.aeth_accepted.specs.Inputs.{Inputs, run_of}
use Rattle.aeth_routed_sessions.specs.RoutedSessions.{routed_sessions_of}
use Rattle.aeth_running.specs.{Network.first_network, Network.played, Routing.Routing}
use Rattle.aeth_network.specs.Runs.{AreWiresOf}

module _ (inputs : Inputs) (routing : Routing) where
  -- The wires behind so many cycles.
  abbrev pub wires_behind : ℕ → List (Option Flit)
  wires_behind t = (played t (first_network inputs routing)).components.wires

  -- The laws on these.
  pub record Laws : Type 0 where
    pub first : (l t : ℕ) → t < inputs.cycles → l < length inputs.chip.links
        → option_to_list (flit_on (wires_behind (t + 1)) l) ≡ carries (run_of inputs) l t
    pub behind : (link : LinkId) (k : ℕ) → k < delay_of inputs.chip.links link → (t : ℕ)
        → t + k < inputs.cycles
        → option_to_list (flit_on (wires_behind (t + k + 1)) (wire_at inputs.chip.links link.0 k))
        ≡ carries (run_of inputs) link.0 t
    pub early : (link : LinkId) (k : ℕ) → k < delay_of inputs.chip.links link → (t : ℕ) → t < k
        → t < inputs.cycles
        → flit_on (wires_behind (t + 1)) (wire_at inputs.chip.links link.0 k) ≡ None
    pub empty : (l : ℕ) → flit_on (wires_behind 0) l ≡ None
    pub passed : (t : ℕ) → t < inputs.cycles → (m r : ℕ) (flit : Flit)
        → (routed_sessions_of inputs).end m ≡ AtRouter r
        → flit_on (wires_behind (t + 1)) m ≡ Some flit
        → IsPassed (routed_sessions_of inputs) (flit_on (wires_behind (t + 1))) m r flit
    pub read : (t : ℕ) → t < inputs.cycles → (l : ℕ) (flit : Flit)
        → flit_on (wires_behind (t + 1)) l ≡ Some flit
        → (arrival : Arrival) × (arrival_of (Some flit) ≡ Some arrival)

  module _ (laws : Laws) (wires : List (Option Flit)) where
    -- Before the first cycle they have nothing.
    none-yet : wires ≡ wires_behind 0 → AreWiresOf inputs 0 wires
    none-yet are =
        let empty : (l : ℕ) → flit_on wires l ≡ None =
        λ l. ap (λ (list : List (Option Flit)). flit_on list l) are ∙ laws.empty l in
        record {
          first = λ l t known at. absurd (omega arith);
          behind = λ link k t within at. absurd (omega arith);
          early = λ link k within soon. empty (wire_at inputs.chip.links link.0 k);
          empty = λ l at. empty l;
          passed = λ m r flit ends on.
              let both : None ≡ Some flit = sym (empty m) ∙ on in absurd (cc both);
          read = λ l flit on.
              let both : None ≡ Some flit = sym (empty l) ∙ on in absurd (cc both);
        }

    -- Behind one more cycle they carry what the run does in it.
    next : (t : ℕ) → t < inputs.cycles → wires ≡ wires_behind (t + 1)
        → AreWiresOf inputs (t + 1) wires
    next t early are = record {
      first = λ l u known at.
          ap (λ (list : List (Option Flit)). option_to_list (flit_on list l))
          (are ∙ ap wires_behind at) ∙ laws.first l u (omega arith) known;
      behind = λ link k u within at.
          ap (λ (list : List (Option Flit)).
          option_to_list (flit_on list (wire_at inputs.chip.links link.0 k)))
          (are ∙ ap wires_behind at) ∙ laws.behind link k within u (omega arith);
      early = λ link k within soon.
          ap (λ (list : List (Option Flit)). flit_on list (wire_at inputs.chip.links link.0 k)) are
          ∙ laws.early link k within t (omega arith) early;
      empty = λ l at. absurd (omega arith);
      passed = λ m r flit ends on.
          subst (λ (list : List (Option Flit)).
          IsPassed (routed_sessions_of inputs) (flit_on list) m r flit) (sym are)
          (laws.passed t early m r flit ends
          (subst (λ (list : List (Option Flit)). flit_on list m ≡ Some flit) are on));
      read = λ l flit on.
          laws.read t early l flit
          (subst (λ (list : List (Option Flit)). flit_on list l ≡ Some flit) are on);
    }

    -- So behind any number of cycles.
    pub wires-of : (time : ℕ) → time ≤ inputs.cycles → wires ≡ wires_behind time
        → AreWiresOf inputs time wires
    wires-of zero within are = none-yet are
    wires-of (suc t) within are =
        let same : suc t ≡ t + 1 = omega arith in
        subst (λ n. AreWiresOf inputs n wires) (sym same)
        (next t (omega arith) (are ∙ ap wires_behind same))
