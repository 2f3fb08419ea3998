-- Each session has its path over the wires of its chip.
use Rattle.std.proofs.Common.{◌≡◌, ◌⊎◌, ◌<◌, ◌∙◌, ℕ, suc, List, Some, length, slice_get, sym, subst}
use Rattle.std.proofs.Common.{inl, inr, arith}
use Rattle.std.proofs.lemmas.Option.{same_Some, slice_get_within}
use Rattle.aeth_chip.specs.{Chip.IsChip, Paths.IsPath}
use Rattle.aeth_report.specs.Flows.{Run}
use Rattle.aeth_report.specs.SessionList.{ChannelSession, session_list, listed_at, partner_of}
use Rattle.aeth_invariant.specs.WellRouted.{HasPath, IsRouterPlace, IsStagePlace}
use Rattle.aeth_invariant.specs.RoutedSessions.{AtInterface}
use Rattle.aeth_routed_sessions.specs.{RoutedSessions.routed_sessions_over, RoutedSessions.flow_in}
use Rattle.aeth_routed_sessions.specs.{RoutedSessions.row_in, Paths.wires_along, Wiring.end_of}
use Rattle.aeth_routed_sessions.proofs.PathRoutersPassed.{GoesOn, Landed, Routed, Staged, begins}
use Rattle.aeth_routed_sessions.proofs.PathRoutersPassed.{goes_on}

module _ (run : Run) (is_chip : IsChip run.design.chip) (c : ℕ)
    (known : c < length (session_list run)) where
  abbrev one : ChannelSession
  one = listed_at run c

  abbrev wires : List ℕ
  wires = wires_along run.design.chip.links (flow_in run one).path

  -- The path leads from its interface to that of the opposite session.
  abbrev pub LeadsBack : Type 0
  LeadsBack = IsPath run.design.chip.links (row_in run (listed_at run c)).ni
      (row_in run (listed_at run (partner_of c))).ni (flow_in run (listed_at run c)).path

  module _ (is_path : LeadsBack) where
    abbrev Goes : ℕ → ℕ → Type 0
    Goes = GoesOn run.design.chip is_chip (row_in run one).ni
        (row_in run (listed_at run (partner_of c))).ni (flow_in run one).path is_path

    -- Where a wire isn't the last, the next one is that of the path.
    inner-in : (i l m : ℕ) → slice_get wires (suc i) ≡ Some m → Goes i l
        → IsRouterPlace (routed_sessions_over run) c i l m
        ⊎ IsStagePlace (routed_sessions_over run) c i l m
    inner-in i l m next (Routed n at through) =
        let same : n ≡ m = same_Some n m (sym at ∙ next) in
        inl (subst (λ (k : ℕ). IsRouterPlace (routed_sessions_over run) c i l k) same (record {
          router = through.router;
          ends = through.ends;
          starts = through.starts;
          routers_passed = through.routers_passed;
          names = through.names;
        }))
    inner-in i l m next (Staged n at through) =
        let same : n ≡ m = same_Some n m (sym at ∙ next) in
        inr (subst (λ (k : ℕ). IsStagePlace (routed_sessions_over run) c i l k) same (record {
          ends = through.ends;
          starts = through.starts;
          routers_passed = through.routers_passed;
        }))
    inner-in i l m next (Landed arrives) =
        let within = slice_get_within wires (suc i) m next in
        let last = arrives.last in
        absurd (omega (arith, within, last))

    last-in : (i l : ℕ) → suc i ≡ length wires → Goes i l
        → end_of run.design.chip.links l
        ≡ AtInterface (row_in run (listed_at run (partner_of c))).ni.0
    last-in i l all (Routed n at through) =
        let within = slice_get_within wires (suc i) n at in absurd (omega (arith, within, all))
    last-in i l all (Staged n at through) =
        let within = slice_get_within wires (suc i) n at in absurd (omega (arith, within, all))
    last-in i l all (Landed arrives) = arrives.ends

    pub has_path : HasPath (routed_sessions_over run) c
    has_path =
        let go = goes_on run.design.chip is_chip (row_in run one).ni
        (row_in run (listed_at run (partner_of c))).ni (flow_in run one).path is_path in
        let first = begins run.design.chip is_chip (row_in run one).ni
        (row_in run (listed_at run (partner_of c))).ni (flow_in run one).path is_path in
        record {
          first = first.first;
          at = first.at;
          starts = first.starts;
          none_passed = first.none_passed;
          inner = λ i l m here next. inner-in i l m next (go i l here);
          last = λ i l here all. last-in i l all (go i l here);
        }
