-- One wire more has a flit: where it lands, and what is counted of that.
use Rattle.std.proofs.Common.{ℕ, ◌≡◌, ◌≢◌, ◌≤◌, ◌<◌, ◌==◌, refl, sym, ap, ◌∙◌, inl, inr, true}
use Rattle.std.proofs.Common.{false, is_some, List, fold, get_or, length, map, set, Option, Some}
use Rattle.std.proofs.Common.{None, slice_get, eq-eqb, eqb-true}
use Rattle.std.proofs.lemmas.{Bool.cases_eq, Option.get_or_from_slice_get, Option.same_Some}
use Rattle.aeth_base.proofs.Lists.{map-at}
use Rattle.aeth_clocked.specs.{Wires.flit_on, declared.flit.Flit.Flit}
use Rattle.aeth_ni.specs.Component.{absorbed, arrival_of, interface_absorb}
use Rattle.aeth_ni.specs.Interface.{InterfaceState}
use Rattle.aeth_router.specs.declared.part.Part.{Part}
use Rattle.aeth_router.specs.declared.part.Part.TheVariants.{Interface, Router, Stage, TableRouter}
use Rattle.aeth_components.specs.{Changes.on_interface, Counting.counted_among}
use Rattle.aeth_components.specs.{Counting.noted_among, Ends.AreEnds, Wirings.IsWired}
use Rattle.aeth_components.specs.{Wirings.wiring_of, Seen.flits_landed, Seen.interfaces_latched}
use Rattle.aeth_components.specs.{Seen.landed, declared.ends.Ends.Ends}
use Rattle.aeth_components.specs.{declared.channel_state.ChannelState.ChannelState}
use Rattle.aeth_components.proofs.ComeLemmas.{came-found, came_to, landing-same, landing_of}
use Rattle.aeth_components.proofs.MapLemmas.{map-agree, map-apart}
use Rattle.aeth_components.proofs.PassedLemmas.{end-of, input-of, receiver}
use Rattle.aeth_components.proofs.TakenLemmas.{OneMore}
use Rattle.aeth_components.proofs.ThereLemmas.{counts-there, notes-there}
use Rattle.aeth_components.proofs.WalkedLemmas.{counts-agree, counts-next, notes-agree, notes-next}

-- One wire more has a flit, and a component receives there.
pub record Lands (parts : List Part) (wires : List (Option Flit)) (ends : Ends) (wire number : ℕ)
    (flit : Flit) (old new : List (Option Flit)) : Type 0 where
  pub wired : IsWired (map wiring_of parts) (length wires)
  pub are : AreEnds (map wiring_of parts) (length wires) ends
  pub within : wire < length wires
  pub end : slice_get ends.receivers.items wire ≡ Some number
  pub has : flit_on wires wire ≡ Some flit
  pub more : OneMore old new wire flit

module _ {parts : List Part} {wires : List (Option Flit)} {ends : Ends} {wire number : ℕ} {flit : Flit}
    {old new : List (Option Flit)} (lands : Lands parts wires ends wire number flit old new) where
  -- No other interface receives on the wire.
  same-apart : (i : ℕ) (ni : InterfaceState) → slice_get parts i ≡ Some (Interface ni) → i ≢ number
      → flit_on new ni.entering.0 ≡ flit_on old ni.entering.0
  same-apart i ni at apart =
      lands.more.others ni.entering.0
      (λ same. apart (same_Some i number
      (sym (end-of parts wires ends 0 lands.wired lands.are i wire (Interface ni) at
      (eq-eqb ni.entering.0 wire same)) ∙ lands.end)))

  -- The component that does.
  pub receiver-at : (part : Part) × (slice_get parts number ≡ Some part)
  receiver-at =
      let (j, part, at, there) = receiver parts wires ends 0 lands.wired lands.are wire lands.within in
      let same : j ≡ number = same_Some j number (sym there ∙ lands.end) in
      (part, sym (ap (slice_get parts) same) ∙ at)

  -- It is no interface: all stay.
  module _ (over : ends.interfaces ≤ number) where
    same-past : (i : ℕ) (ni : InterfaceState) → slice_get parts i ≡ Some (Interface ni)
        → flit_on new ni.entering.0 ≡ flit_on old ni.entering.0
    same-past i ni at = elim (cases_eq i number) [
      | inl same ↦
          absurd (cc (lands.are.others number (wiring_of (Interface ni))
          (map-at wiring_of parts number (Interface ni) (ap (slice_get parts) (sym same) ∙ at))
          over))
      | inr apart ↦ same-apart i ni at apart
    ]

    pub flits_landed-past : flits_landed old parts ≡ flits_landed new parts
    flits_landed-past =
        sym (map-agree (landing_of new) (landing_of old) parts
        (λ i part at. landing-same old new part
        (λ ni is. same-past i ni (at ∙ ap (λ (part : Part). Some part) is))))

    came_to-past : (i : ℕ) → came_to old parts i ≡ came_to new parts i
    came_to-past i = sym (came-found old new parts i (slice_get parts i) refl (same-past i))

    pub counts-past : (cycle : ℕ) (channel_states : List ChannelState)
        → map (counted_among (came_to old parts) cycle (interfaces_latched wires parts))
        channel_states
        ≡ map (counted_among (came_to new parts) cycle (interfaces_latched wires parts))
        channel_states
    counts-past cycle =
        counts-agree cycle (interfaces_latched wires parts) (came_to old parts) (came_to new parts)
        (λ channel_state. inl (came_to-past channel_state.receiver.ni.0))

    pub notes-past : (cycle : ℕ) (channel_states : List ChannelState) (landings : List ℕ)
        → fold (noted_among (came_to old parts) cycle (interfaces_latched wires parts)) landings
        channel_states
        ≡ fold (noted_among (came_to new parts) cycle (interfaces_latched wires parts)) landings
        channel_states
    notes-past cycle =
        notes-agree cycle (interfaces_latched wires parts) (came_to old parts) (came_to new parts)
        (λ channel_state. inl (came_to-past channel_state.receiver.ni.0))

  -- It is one.
  module _ (less : number < ends.interfaces) where
    as-interface : (part : Part) → slice_get parts number ≡ Some part
        → (ni : InterfaceState) × (slice_get parts number ≡ Some (Interface ni))
        × (ni.entering.0 ≡ wire)
    as-interface (Interface ni) at = (
      ni,
      at,
      eqb-true ni.entering.0 wire (input-of parts wires ends 0 lands.wired lands.are number wire
          (Interface ni) lands.within at lands.end),
    )
    as-interface (Router router) at =
        absurd (cc (lands.are.first number (wiring_of (Router router))
        (map-at wiring_of parts number (Router router) at) less))
    as-interface (TableRouter router) at =
        absurd (cc (lands.are.first number (wiring_of (TableRouter router))
        (map-at wiring_of parts number (TableRouter router) at) less))
    as-interface (Stage stage) at =
        absurd (cc (lands.are.first number (wiring_of (Stage stage))
        (map-at wiring_of parts number (Stage stage) at) less))

    abbrev interface : (ni : InterfaceState) × (slice_get parts number ≡ Some (Interface ni))
        × (ni.entering.0 ≡ wire)
    interface = as-interface receiver-at.0 receiver-at.1

    was : flit_on old interface.0.entering.0 ≡ None
    was = ap (flit_on old) interface.2 ∙ lands.more.before

    is : flit_on new interface.0.entering.0 ≡ Some flit
    is = ap (flit_on new) interface.2 ∙ lands.more.here

    -- It latches.
    pub flits_landed-more : {before : List Part} {part : Part} (default : Part)
        → before ≡ flits_landed old parts
        → part ≡ on_interface (landed (Some flit)) (get_or before number default)
        → set before number part ≡ flits_landed new parts
    flits_landed-more {before} {part} default first latches =
        let ni = interface.0 in
        let at = interface.1 in
        let held : get_or before number default ≡ Interface ni =
        ap (λ (parts : List Part). get_or parts number default) first
        ∙ get_or_from_slice_get (flits_landed old parts) number (Interface ni) default
        (map-at (landing_of old) parts number (Interface ni) at
        ∙ ap (λ (flit : Option Flit). Some (Interface (landed flit ni))) was) in
        ap (λ (parts : List Part). set parts number part) first
        ∙ sym (map-apart (landing_of new) (landing_of old) parts number part
        (λ other there.
        ap (landing_of new) (same_Some other (Interface ni) (sym there ∙ at))
        ∙ ap (λ (flit : Option Flit). Interface (landed flit ni)) is
        ∙ ap (on_interface (landed (Some flit))) (sym held) ∙ sym latches)
        (λ i other there apart. landing-same old new other
        (λ ni is. same-apart i ni (there ∙ ap (λ (part : Part). Some part) is) apart)))

    -- A flit has come to it that hadn't, and to no other.
    came_to-before : came_to old parts number ≡ false
    came_to-before =
        let at = interface.1 in
        let none = ap (λ (flit : Option Flit). is_some flit) was in
        rw at none

    came_to-here : came_to new parts number ≡ true
    came_to-here =
        let at = interface.1 in
        let some = ap (λ (flit : Option Flit). is_some flit) is in
        rw at some

    came_to-others : (i : ℕ) → i ≢ number → came_to new parts i ≡ came_to old parts i
    came_to-others i apart =
        came-found old new parts i (slice_get parts i) refl (λ ni at. same-apart i ni at apart)

    -- It is as it latches these wires, and its channels are counted then.
    module _ {now : List Part} (landed_now : now ≡ flits_landed new parts) (cycle : ℕ)
        (channel_states : List ChannelState) where
      latched-there : slice_get now number ≡ slice_get (interfaces_latched wires parts) number
      latched-there =
          let ni = interface.0 in
          let at = interface.1 in
          let all : flit_on wires ni.entering.0 ≡ Some flit =
          ap (flit_on wires) interface.2 ∙ lands.has in
          ap (λ (parts : List Part). slice_get parts number) landed_now
          ∙ map-at (landing_of new) parts number (Interface ni) at
          ∙ ap (λ (flit : Option Flit). Some (Interface (landed flit ni))) is
          ∙ ap (λ (flit : Option Flit). Some (Interface (absorbed (arrival_of flit) ni))) (sym all)
          ∙ sym (map-at (on_interface (λ ni. interface_absorb ni wires)) parts number (Interface ni) at)

      pub counts-more
          : map (counted_among (λ i. i == number) cycle now)
          (map (counted_among (came_to old parts) cycle (interfaces_latched wires parts))
          channel_states)
          ≡ map (counted_among (came_to new parts) cycle (interfaces_latched wires parts))
          channel_states
      counts-more =
          let latched = interfaces_latched wires parts in
          counts-there cycle now latched number latched-there
          (map (counted_among (came_to old parts) cycle latched) channel_states)
          ∙ counts-next cycle latched (came_to old parts) (came_to new parts) number came_to-before
          came_to-here came_to-others channel_states

      pub notes-more : (landings : List ℕ)
          → fold (noted_among (λ i. i == number) cycle now)
          (fold (noted_among (came_to old parts) cycle (interfaces_latched wires parts)) landings
          channel_states)
          (map (counted_among (came_to old parts) cycle (interfaces_latched wires parts))
          channel_states)
          ≡ fold (noted_among (came_to new parts) cycle (interfaces_latched wires parts)) landings
          channel_states
      notes-more landings =
          let latched = interfaces_latched wires parts in
          notes-there cycle now latched number latched-there
          (map (counted_among (came_to old parts) cycle latched) channel_states)
          (fold (noted_among (came_to old parts) cycle latched) landings channel_states)
          ∙ notes-next cycle latched (came_to old parts) (came_to new parts) number came_to-before
          came_to-here came_to-others channel_states landings
