-- The components of a chip are empty at first.
use Rattle.std.proofs.Common.{◌≡◌, ◌<◌, ◌∙◌, ℕ, ◌*◌, refl, sym, ap, subst, arith, List, [], ◌∷◌}
use Rattle.std.proofs.Common.{Option, Some, None, get_or, length, map, replicate, slice_get}
use Rattle.std.proofs.lemmas.List.{get_or-map, length-map, length-replicate}
use Rattle.std.proofs.lemmas.Option.{slice_get-get_or}
use Rattle.std.specs.List.{slice_index_or}
use Rattle.aeth_chip.specs.{Chip.ChipData, Chip.IsChip, Wires.wires_of}
use Rattle.aeth_clocked.specs.{Wires.flit_on, declared.flit.Flit.Flit}
use Rattle.aeth_clocked.proofs.ClearLemmas.{flit_on-replicate}
use Rattle.aeth_ni.specs.{Limits.queues_of_interface, Queue.empty_queue}
use Rattle.aeth_router.specs.Router.{RouterState, entering_wires, new_router}
use Rattle.aeth_router.specs.Stage.{StageState}
use Rattle.aeth_router.specs.TableRouter.{TableRouterState}
use Rattle.aeth_router.specs.declared.part.Part.{Part}
use Rattle.aeth_router.specs.declared.part.Part.TheVariants.{Router, Stage, TableRouter}
use Rattle.aeth_router.proofs.TableLemmas.{get_or-same}
use Rattle.aeth_components.proofs.MadeLemmas.{IsInterface, IsRouter, IsStage, IsWired-new}
use Rattle.aeth_components.proofs.MadeLemmas.{length-new_parts, part-at}
use Rattle.aeth_components.specs.{Components.first_components, Wirings.IsWired, Wirings.wiring_of}
use Rattle.aeth_components.specs.{Making.made_interface, Making.made_stage, Making.new_parts}
use Rattle.aeth_components.specs.{Switching.entry_in, Switching.entry_of, View.queue_in}
use Rattle.aeth_components.specs.{declared.channel_state.ChannelState.ChannelState}
use Rattle.aeth_components.specs.{declared.making.RouterKind.TheVariants.ByHeader}
use Rattle.aeth_invariant.specs.RoutedSessions.{RoutedSessions, RoutedSession}
use Rattle.aeth_routed_sessions.specs.Wiring.{routed_sessions_on}
use Rattle.aeth_stimuli.proofs.ChipWirings.{wired_for, queues-are}
use Rattle.aeth_stimuli.specs.OnChip.{HaveRooms, IsOver, rooms_at}
use Rattle.aeth_refinement.specs.{Beginning.AreEmpty, Beginning.HasRoom, WiredFor.IsWiredFor}

-- Where none of a list has a flit, it is a list of none.
no-flits : (f : ℕ → Option Flit) → ((x : ℕ) → f x ≡ None) → (xs : List ℕ)
    → replicate (length xs) None ≡ map f xs
no-flits f none [] = refl
no-flits f none (x ∷ xs) =
    ap (λ (flits : List (Option Flit)). None ∷ flits) (no-flits f none xs)
    ∙ ap (λ (flit : Option Flit). flit ∷ map f xs) (sym (none x))

module _ (chip : ChipData) (is_chip : IsChip chip) (rooms : List ℕ)
    (rooms_are : length rooms ≡ queues_of_interface * length chip.nis) where
  abbrev parts : List Part
  parts = new_parts chip ByHeader rooms

  abbrev wires : List (Option Flit)
  wires = replicate (wires_of chip.links) None

  router-empty : (i : ℕ) (router : RouterState) → slice_get parts i ≡ Some (Router router)
      → router.held ≡ map (flit_on wires) router.incoming
  router-empty i router at = elim (part-at chip rooms i (Router router) at) [
    | IsInterface small is ↦ absurd (cc is)
    | IsRouter r small place is ↦
        let same : router ≡ new_router (record { 0 = r }) chip.links = cc is in
        ap (λ (s : RouterState). s.held) same
        ∙ no-flits (flit_on wires) (flit_on-replicate (wires_of chip.links))
        (entering_wires (record { 0 = r }) chip.links)
        ∙ ap (λ (s : RouterState). map (flit_on wires) s.incoming) (sym same)
    | IsStage k small place stage ↦
        let same : Router router ≡ made_stage chip.links stage.link stage.place = stage.is in
        absurd (cc same)
  ]

  -- Nor is there one with a table.
  table-empty : (i : ℕ) (router : TableRouterState) → slice_get parts i ≡ Some (TableRouter router)
      → router.held ≡ map (flit_on wires) router.incoming
  table-empty i router at = elim (part-at chip rooms i (TableRouter router) at) [
    | IsInterface small is ↦ absurd (cc is)
    | IsRouter r small place is ↦ absurd (cc is)
    | IsStage k small place stage ↦
        let same : TableRouter router ≡ made_stage chip.links stage.link stage.place = stage.is in
        absurd (cc same)
  ]

  stage-empty : (i : ℕ) (own : StageState) → slice_get parts i ≡ Some (Stage own)
      → own.held ≡ flit_on wires own.input.0
  stage-empty i own at = elim (part-at chip rooms i (Stage own) at) [
    | IsInterface small is ↦ absurd (cc is)
    | IsRouter r small place is ↦ absurd (cc is)
    | IsStage k small place stage ↦
        let made : Stage own ≡ made_stage chip.links stage.link stage.place = stage.is in
        let none : own.held ≡ None = cc made in
        none ∙ sym (flit_on-replicate (wires_of chip.links) own.input.0)
  ]

  -- No slot has an entry.
  entry-of : (n x : ℕ) → entry_of parts n x ≡ None
  entry-of n x =
      let cases : (o : Option Part) → slice_get parts n ≡ o → entry_in x o ≡ None = elim [
        | None ↦ λ at. refl
        | Some part ↦ λ at. elim (part-at chip rooms n part at) [
          | IsInterface small is ↦
              ap (λ (p : Part). entry_in x (Some p)) is ∙ get_or-same None chip.slots x
          | IsRouter r small place is ↦ ap (λ (p : Part). entry_in x (Some p)) is
          | IsStage k small place stage ↦ ap (λ (p : Part). entry_in x (Some p)) stage.is
        ]
      ] in
      cases (slice_get parts n) refl

  -- The interface of a number stands at its place.
  pub interface-part : (n : ℕ) → n < length chip.nis
      → slice_get parts n ≡ Some (made_interface chip rooms n)
  interface-part n within =
      let count = length-new_parts chip rooms in
      let default = made_interface chip rooms n in
      let at = slice_get-get_or parts n default (omega (arith, within, count)) in
      elim (part-at chip rooms n (get_or parts n default) at) [
        | IsInterface small is ↦ at ∙ ap (λ (p : Part). Some p) is
        | IsRouter r small place is ↦ absurd (omega (arith, within, place))
        | IsStage k small place stage ↦ absurd (omega (arith, within, place))
      ]

  module _ (count : ℕ) (routed_session : ℕ → RoutedSession) (opposite : ℕ → ℕ)
      (over : IsOver (routed_sessions_on chip count routed_session opposite) chip)
      (enough : HaveRooms (routed_sessions_on chip count routed_session opposite) rooms) where
    abbrev sessions : RoutedSessions
    sessions = routed_sessions_on chip count routed_session opposite

    has-room : (channel_states : List ChannelState) (words : List ℕ) (c : ℕ) → c < sessions.count
        → HasRoom sessions (first_components chip ByHeader rooms channel_states words) c
    has-room channel_states words c h =
        let n = (sessions.routed_session c).ni in
        let q = (sessions.routed_session c).queue in
        let own = rooms_at rooms n in
        let size = queues-are chip is_chip rooms rooms_are n (over.ni c h) in
        let same = length-map own empty_queue in
        let small = over.queue c h in
        record {
          room = slice_index_or own q 0;
          is = ap (queue_in q) (interface-part n (over.ni c h))
              ∙ get_or-map empty_queue own q 0 (empty_queue 0) (omega (arith, size, same, small));
          enough = enough c h;
        }

    pub empty : (channel_states : List ChannelState) (words : List ℕ)
        → ((number : ℕ) (channel_state : ChannelState)
        → slice_get channel_states number ≡ Some channel_state → channel_state.fin ≡ 0)
        → AreEmpty sessions (first_components chip ByHeader rooms channel_states words)
    empty channel_states words closed =
        let wirings = map wiring_of parts in
        let size : length wires ≡ wires_of chip.links =
        length-replicate (wires_of chip.links) None in
        record {
          wired = subst (IsWired wirings) (sym size) (IsWired-new chip is_chip rooms);
          wired_for = subst (IsWiredFor sessions wirings) (sym size)
              (wired_for chip is_chip rooms rooms_are count routed_session opposite over);
          latched = record { routers = router-empty; tables = table-empty; stages = stage-empty };
          wires = flit_on-replicate (wires_of chip.links);
          entries = entry-of;
          queues = has-room channel_states words;
          channel_states = closed;
        }
