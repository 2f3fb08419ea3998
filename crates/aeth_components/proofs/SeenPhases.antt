-- A cycle of components that are seen with what their wires have, from one of components whose interfaces
-- alone are stepped.
use Rattle.std.proofs.Common.{ℕ, ◌≡◌, ◌∙◌, refl, sym, ap, List, [], ◌∷◌, length, map, Option, None}
use Rattle.std.proofs.Common.{Some}
use Rattle.std.specs.List.{range_with_len}
use Rattle.aeth_clocked.specs.{declared.flit.Flit.Flit, Wires.flit_on}
use Rattle.aeth_ni.specs.Component.{Arrival, absorbed, arrival_of, interface_after}
use Rattle.aeth_ni.specs.Interface.{InterfaceState, changed}
use Rattle.aeth_ni.specs.Queue.{QueueState}
use Rattle.aeth_router.specs.Part.{absorb_of, after_of}
use Rattle.aeth_router.specs.declared.part.Part.{Part}
use Rattle.aeth_router.specs.declared.part.Part.TheVariants.{Interface, Router, Stage, TableRouter}
use Rattle.aeth_components.specs.{Changes.event_done, Changes.on_interface, Changes.switched}
use Rattle.aeth_components.specs.{Components.Runs, Components.driven_from, Components.latched_from}
use Rattle.aeth_components.specs.{Components.latched_of, Components.ready_of}
use Rattle.aeth_components.specs.{Components.switched_from, Components.wires_driven}
use Rattle.aeth_components.specs.{Wirings.wiring_of, Phases.Moment, Phases.in_turn, Phases.pulled}
use Rattle.aeth_components.specs.{Phases.refilled, Passing.way_of, Seen.all_seen, Seen.flits_landed}
use Rattle.aeth_components.specs.{Seen.interfaces_driven, Seen.landed, Seen.seen, Seen.taken_of}
use Rattle.aeth_components.specs.{declared.event.Event.Event}
use Rattle.aeth_components.specs.{declared.channel_state.ChannelState.ChannelState}
use Rattle.aeth_components.proofs.WiringLemmas.{wiring_of-absorbed, wirings-after, views-map}
use Rattle.aeth_components.proofs.PartLemmas.{wirings-switched, views-switched}
use Rattle.aeth_components.proofs.SeenLemmas.{wirings-seen, moment_with, pulled-seen, refilled-seen}
use Rattle.aeth_components.proofs.SeenLemmas.{switched-seen}
use Rattle.aeth_components.proofs.SkipLemmas.{length-turns}
use Rattle.aeth_components.proofs.TurnLemmas.{wirings-pulled, wirings-refilled, wirings-turns}
use Rattle.aeth_components.proofs.TurnLemmas.{views-pulled, views-refilled, views-turns}

-- What a component had before it latches is nothing to it.
absorb-held : (wires : List (Option Flit)) (part : Part)
    → absorb_of part wires ≡ absorb_of (seen wires part) wires
absorb-held wires (Interface ni) = refl
absorb-held wires (Router router) = refl
absorb-held wires (TableRouter router) = refl
absorb-held wires (Stage stage) = refl

all-held : (wires : List (Option Flit)) (parts : List Part)
    → map (λ part. absorb_of part wires) parts
    ≡ map (λ part. absorb_of part wires) (all_seen wires parts)
all-held wires [] = refl
all-held wires (part ∷ parts) = rw (absorb-held wires part, all-held wires parts) refl

-- Where a flit comes to it an interface has latched it; where none comes it just tells of none, which is
-- what is seen of it.
landed-seen : (wires : List (Option Flit)) (ni : InterfaceState) (flit : Option Flit)
    → flit_on wires ni.entering.0 ≡ flit
    → Interface (absorbed (arrival_of flit) ni) ≡ seen wires (Interface (landed flit ni))
landed-seen wires ni None is = rw is refl
landed-seen wires ni (Some flit) is = rw is refl

absorb-landed : (before wires : List (Option Flit)) (part : Part)
    → absorb_of (seen before part) wires
    ≡ seen wires (on_interface (λ ni. landed (flit_on wires ni.entering.0) ni) part)
absorb-landed before wires (Interface ni) =
    landed-seen wires ni (flit_on wires ni.entering.0) refl
absorb-landed before wires (Router router) = refl
absorb-landed before wires (TableRouter router) = refl
absorb-landed before wires (Stage stage) = refl

-- So what is seen of components behind the landing is what they have latched, whatever was seen of them
-- before.
pub absorbed-landed : (before wires : List (Option Flit)) (parts : List Part)
    → map (λ part. absorb_of part wires) (all_seen before parts)
    ≡ all_seen wires (flits_landed wires parts)
absorbed-landed before wires [] = refl
absorbed-landed before wires (part ∷ parts) =
    rw (absorb-landed before wires part, absorbed-landed before wires parts) refl

-- What was seen of a component before it drove is nothing to what is seen of it later.
after-seen : (old new : List (Option Flit)) (cycle : ℕ) (part : Part)
    → seen new (after_of (seen old part) cycle)
    ≡ seen new (on_interface (λ ni. interface_after ni cycle) part)
after-seen old new cycle (Interface ni) = refl
after-seen old new cycle (Router router) = refl
after-seen old new cycle (TableRouter router) = refl
after-seen old new cycle (Stage stage) = refl

all-driven : (old new : List (Option Flit)) (cycle : ℕ) (parts : List Part)
    → all_seen new (map (λ part. after_of part cycle) (all_seen old parts))
    ≡ all_seen new (interfaces_driven cycle parts)
all-driven old new cycle [] = refl
all-driven old new cycle (part ∷ parts) =
    rw (after-seen old new cycle part, all-driven old new cycle parts) refl

-- Events and refilling commute with what is seen.
pub ready-seen : (words : List ℕ) (events : List Event) (cycle : ℕ) (wires : List (Option Flit))
    (moment : Moment) → ready_of words events cycle (moment_with (seen wires) moment)
    ≡ moment_with (seen wires) (ready_of words events cycle moment)
ready-seen words events cycle wires moment =
    ap (λ (parts : List Part).
    in_turn (refilled words cycle)
    (record { parts = parts; channel_states = moment.channel_states }))
    (switched-seen wires events moment.parts)
    ∙ refilled-seen wires words cycle (switched_from events moment)

-- From the drive to the latch interfaces alone are stepped.
taken-seen : (cycle : ℕ) (old new : List (Option Flit)) (moment : Moment)
    → moment_with (seen new)
    (in_turn (pulled cycle) (driven_from cycle (moment_with (seen old) moment)))
    ≡ moment_with (seen new) (in_turn (pulled cycle)
    (record moment { parts = interfaces_driven cycle moment.parts }))
taken-seen cycle old new moment =
    sym (pulled-seen new cycle (driven_from cycle (moment_with (seen old) moment)))
    ∙ ap (λ (parts : List Part).
    in_turn (pulled cycle) (record { parts = parts; channel_states = moment.channel_states }))
    (all-driven old new cycle moment.parts)
    ∙ pulled-seen new cycle (record moment { parts = interfaces_driven cycle moment.parts })

latched-seen : (words : List ℕ) (events : List Event) (cycle : ℕ)
    (wires new_wires : List (Option Flit)) (moment : Moment)
    → latched_of words events cycle new_wires (moment_with (seen wires) moment)
    ≡ (let taken = taken_of words events cycle moment in
    record taken { parts = all_seen new_wires (flits_landed new_wires taken.parts) })
latched-seen words events cycle wires new_wires moment =
    let ready = ready_of words events cycle moment in
    let taken = taken_of words events cycle moment in
    let drained = in_turn (pulled cycle) (driven_from cycle (moment_with (seen wires) ready)) in
    ap (λ (moment : Moment). latched_from new_wires (in_turn (pulled cycle) (driven_from cycle moment)))
    (ready-seen words events cycle wires moment)
    ∙ ap (λ (parts : List Part). record { parts = parts; channel_states = drained.channel_states })
    (all-held new_wires drained.parts)
    ∙ ap (latched_from new_wires) (taken-seen cycle wires new_wires ready)
    ∙ ap (λ (parts : List Part). record { parts = parts; channel_states = taken.channel_states })
    (absorbed-landed new_wires new_wires taken.parts)

-- A change of interfaces keeps of all components what it keeps of interfaces.
pub view-kept : {X : Type 0} (view : Part → X) (change : InterfaceState → InterfaceState)
    → ((ni : InterfaceState) → view (Interface (change ni)) ≡ view (Interface ni))
    → (part : Part) → view (on_interface change part) ≡ view part
view-kept view change kept (Interface ni) = kept ni
view-kept view change kept (Router router) = refl
view-kept view change kept (TableRouter router) = refl
view-kept view change kept (Stage stage) = refl

pub views-kept : {X : Type 0} (view : Part → X) (change : InterfaceState → InterfaceState)
    → ((ni : InterfaceState) → view (Interface (change ni)) ≡ view (Interface ni))
    → (parts : List Part) → map view (map (on_interface change) parts) ≡ map view parts
views-kept view change kept = views-map view (on_interface change) (view-kept view change kept)

-- Frames and slot tables stay where interfaces drive or latch.
pub wirings-driven : (cycle : ℕ) (parts : List Part)
    → map wiring_of (interfaces_driven cycle parts) ≡ map wiring_of parts
wirings-driven cycle =
    views-kept wiring_of (λ ni. interface_after ni cycle)
    (λ ni. cc (wirings-after (Interface ni ∷ []) cycle))

-- What stays of an interface however it latches stays where flits land.
module _ {X : Type 0} (view : Part → X)
    (kept : (arrival : Option Arrival) (ni : InterfaceState)
    → view (Interface (absorbed arrival ni)) ≡ view (Interface ni)) where
  view-landed : (flit : Option Flit) (ni : InterfaceState)
      → view (Interface (landed flit ni)) ≡ view (Interface ni)
  view-landed None ni = refl
  view-landed (Some flit) ni = kept (arrival_of (Some flit)) ni

  pub views-landed : (wires : List (Option Flit)) (parts : List Part)
      → map view (flits_landed wires parts) ≡ map view parts
  views-landed wires =
      views-kept view (λ ni. landed (flit_on wires ni.entering.0) ni)
      (λ ni. view-landed (flit_on wires ni.entering.0) ni)

pub wirings-landed : (wires : List (Option Flit)) (parts : List Part)
    → map wiring_of (flits_landed wires parts) ≡ map wiring_of parts
wirings-landed = views-landed wiring_of wiring_of-absorbed

-- How components pass flits on stays in every phase.
way-changed : (queue : ℕ) (change : QueueState → QueueState) (part : Part)
    → way_of (on_interface (changed queue change) part) ≡ way_of part
way-changed queue change = view-kept way_of (changed queue change) (λ ni. refl)

pub ways-switched : (events : List Event) (parts : List Part)
    → map way_of (switched events parts) ≡ map way_of parts
ways-switched =
    views-switched way_of (λ event. view-kept way_of (event_done event) (λ ni. refl))

pub ways-refilled : (words : List ℕ) (cycle : ℕ) (moment : Moment)
    → map way_of (in_turn (refilled words cycle) moment).parts ≡ map way_of moment.parts
ways-refilled words cycle moment =
    views-turns (refilled words cycle) way_of (views-refilled way_of way-changed words cycle)
    (range_with_len 0 (length moment.channel_states)) moment

pub ways-driven : (cycle : ℕ) (parts : List Part)
    → map way_of (interfaces_driven cycle parts) ≡ map way_of parts
ways-driven cycle = views-kept way_of (λ ni. interface_after ni cycle) (λ ni. refl)

pub ways-pulled : (cycle : ℕ) (moment : Moment)
    → map way_of (in_turn (pulled cycle) moment).parts ≡ map way_of moment.parts
ways-pulled cycle moment =
    views-turns (pulled cycle) way_of (views-pulled way_of way-changed cycle)
    (range_with_len 0 (length moment.channel_states)) moment

pub ways-landed : (wires : List (Option Flit)) (parts : List Part)
    → map way_of (flits_landed wires parts) ≡ map way_of parts
ways-landed = views-landed way_of (λ arrival ni. refl)

-- The phases of a cycle whose interfaces alone are stepped, and the landing, are a run of components that
-- are seen with what their wires have.
pub Runs-landed : (words : List ℕ) (events : List Event) (cycle : ℕ)
    (wires new_wires : List (Option Flit)) (parts taken_parts landed_parts : List Part)
    (channel_states taken_channel_states : List ChannelState)
    → record { parts = taken_parts; channel_states = taken_channel_states }
    ≡ taken_of words events cycle (record { parts = parts; channel_states = channel_states })
    → new_wires ≡ wires_driven (ready_of words events cycle
    (record { parts = all_seen wires parts; channel_states = channel_states })).parts (length wires)
    cycle
    → landed_parts ≡ flits_landed new_wires taken_parts
    → Runs words events cycle wires new_wires
    (record { parts = all_seen wires parts; channel_states = channel_states })
    (record { parts = all_seen new_wires landed_parts; channel_states = taken_channel_states })
Runs-landed words events cycle wires new_wires parts taken_parts landed_parts channel_states
    taken_channel_states
    takes drives lands =
    let moment : Moment = record { parts = parts; channel_states = channel_states } in
    let ready = ready_of words events cycle moment in
    record {
      wires = drives;
      moment = ap (λ (parts : List Part).
          record { parts = all_seen new_wires parts; channel_states = taken_channel_states }) lands
          ∙ ap (λ (moment : Moment).
          record moment { parts = all_seen new_wires (flits_landed new_wires moment.parts) }) takes
          ∙ sym (latched-seen words events cycle wires new_wires moment);
      wirings = wirings-seen new_wires landed_parts ∙ ap (map wiring_of) lands
          ∙ wirings-landed new_wires taken_parts
          ∙ ap (λ (moment : Moment). map wiring_of moment.parts) takes
          ∙ wirings-turns (pulled cycle) (wirings-pulled cycle)
          (range_with_len 0 (length ready.channel_states))
          (record ready { parts = interfaces_driven cycle ready.parts })
          ∙ wirings-driven cycle ready.parts
          ∙ wirings-turns (refilled words cycle) (wirings-refilled words cycle)
          (range_with_len 0 (length channel_states)) (switched_from events moment)
          ∙ wirings-switched events parts ∙ sym (wirings-seen wires parts);
      count = ap (λ (moment : Moment). length moment.channel_states) takes
          ∙ length-turns (pulled cycle) (range_with_len 0 (length ready.channel_states))
          (record ready { parts = interfaces_driven cycle ready.parts })
          ∙ length-turns (refilled words cycle) (range_with_len 0 (length channel_states))
          (switched_from events moment);
    }
