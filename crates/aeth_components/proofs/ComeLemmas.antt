-- To which interfaces flits of wires have come, and what has landed there.
use Rattle.std.proofs.Common.{ℕ, ◌≡◌, refl, sym, ap, ◌∙◌, subst, inl, inr, Bool, true, false}
use Rattle.std.proofs.Common.{is_some, List, [], ◌∷◌, fold, map, Option, Some, None, slice_get}
use Rattle.std.proofs.lemmas.{Bool.cases_Bool, Option.same_Some, Option.slice_get-map}
use Rattle.std.specs.Option.{option_map, option_map_or}
use Rattle.aeth_clocked.specs.{Wires.flit_on, declared.flit.Flit.Flit}
use Rattle.aeth_ni.specs.Component.{arrival_of, interface_absorb, last_of}
use Rattle.aeth_ni.specs.Interface.{InterfaceState}
use Rattle.aeth_router.specs.declared.part.Part.{Part}
use Rattle.aeth_router.specs.declared.part.Part.TheVariants.{Interface, Router, Stage, TableRouter}
use Rattle.aeth_components.specs.Changes.{on_interface}
use Rattle.aeth_components.specs.Counting.{brings, counted, counted_among, noted, noted_among}
use Rattle.aeth_components.specs.Queues.{brought_by, words_for}
use Rattle.aeth_components.specs.Seen.{flits_landed, interfaces_latched, landed}
use Rattle.aeth_components.specs.declared.channel_state.ChannelState.{ChannelState}
use Rattle.aeth_components.proofs.AmongLemmas.{brings-found, counts-still, notes-still}
use Rattle.aeth_components.proofs.WiringLemmas.{none-unless}
use Rattle.aeth_components.proofs.MapLemmas.{map-agree}
use Rattle.aeth_components.proofs.WalkedLemmas.{Agree, counts-agree, notes-agree}

-- A component once it has latched what comes to it, where it is an interface.
abbrev pub landing_of : List (Option Flit) → Part → Part
landing_of wires = on_interface (λ ni. landed (flit_on wires ni.entering.0) ni)

-- Whether some flit has come to a component, where it is an interface, and to the one of a number.
abbrev pub has_come : List (Option Flit) → Part → Bool
has_come wires (Interface ni) = is_some (flit_on wires ni.entering.0)
has_come wires (Router router) = false
has_come wires (TableRouter router) = false
has_come wires (Stage stage) = false

abbrev pub came_to : List (Option Flit) → List Part → ℕ → Bool
came_to wires parts i = option_map_or (has_come wires) (slice_get parts i) false

-- Where no wire has a flit, none has come.
pub flits_landed-none : (parts : List Part) → parts ≡ flits_landed [] parts
flits_landed-none [] = refl
flits_landed-none (Interface ni ∷ parts) =
    ap (λ (rest : List Part). Interface ni ∷ rest) (flits_landed-none parts)
flits_landed-none (Router router ∷ parts) =
    ap (λ (rest : List Part). Router router ∷ rest) (flits_landed-none parts)
flits_landed-none (TableRouter router ∷ parts) =
    ap (λ (rest : List Part). TableRouter router ∷ rest) (flits_landed-none parts)
flits_landed-none (Stage stage ∷ parts) =
    ap (λ (rest : List Part). Stage stage ∷ rest) (flits_landed-none parts)

come-none : (part : Part) → has_come [] part ≡ false
come-none (Interface ni) = refl
come-none (Router router) = refl
come-none (TableRouter router) = refl
come-none (Stage stage) = refl

came-none : (found : Option Part) → option_map_or (has_come []) found false ≡ false
came-none None = refl
came-none (Some part) = come-none part

came_to-none : (parts : List Part) (i : ℕ) → came_to [] parts i ≡ false
came_to-none parts i = came-none (slice_get parts i)

pub counts-none : (parts latched : List Part) (cycle : ℕ) (channel_states : List ChannelState)
    → channel_states ≡ map (counted_among (came_to [] parts) cycle latched) channel_states
counts-none parts latched cycle channel_states =
    counts-still cycle latched (came_to [] parts) channel_states
    (λ k channel_state at is. absurd
    (cc (sym (came_to-none parts channel_state.receiver.ni.0) ∙ is)))

pub notes-none : (parts latched : List Part) (cycle : ℕ) (channel_states : List ChannelState)
    (landings : List ℕ)
    → landings ≡ fold (noted_among (came_to [] parts) cycle latched) landings channel_states
notes-none parts latched cycle channel_states landings =
    notes-still cycle latched (came_to [] parts) channel_states landings
    (λ k channel_state at is. absurd
    (cc (sym (came_to-none parts channel_state.receiver.ni.0) ∙ is)))

-- Where wires have the same flit for an interface, as much has come to it, and it has latched the same.
module _ (old new : List (Option Flit)) where
  pub landing-same : (part : Part)
      → ((ni : InterfaceState) → part ≡ Interface ni
      → flit_on new ni.entering.0 ≡ flit_on old ni.entering.0)
      → landing_of new part ≡ landing_of old part
  landing-same (Interface ni) same =
      ap (λ (flit : Option Flit). Interface (landed flit ni)) (same ni refl)
  landing-same (Router router) same = refl
  landing-same (TableRouter router) same = refl
  landing-same (Stage stage) same = refl

  come-same : (part : Part)
      → ((ni : InterfaceState) → part ≡ Interface ni
      → flit_on new ni.entering.0 ≡ flit_on old ni.entering.0)
      → has_come new part ≡ has_come old part
  come-same (Interface ni) same = ap (λ (flit : Option Flit). is_some flit) (same ni refl)
  come-same (Router router) same = refl
  come-same (TableRouter router) same = refl
  come-same (Stage stage) same = refl

  pub came-found : (parts : List Part) (i : ℕ) (found : Option Part) → slice_get parts i ≡ found
      → ((ni : InterfaceState) → slice_get parts i ≡ Some (Interface ni)
      → flit_on new ni.entering.0 ≡ flit_on old ni.entering.0)
      → came_to new parts i ≡ came_to old parts i
  came-found parts i None there same = rw there refl
  came-found parts i (Some part) there same =
      let is = come-same part (λ ni is. same ni (there ∙ ap (λ (part : Part). Some part) is)) in
      rw there is

  -- So it is where they have the same flits.
  pub flits_landed-same : (parts : List Part)
      → ((wire : ℕ) → flit_on new wire ≡ flit_on old wire)
      → flits_landed new parts ≡ flits_landed old parts
  flits_landed-same parts same =
      map-agree (landing_of new) (landing_of old) parts
      (λ i part at. landing-same part (λ ni is. same ni.entering.0))

-- An interface to which no flit came brings no words.
module _ (wires : List (Option Flit)) (parts : List Part) where
  brought-latched : (queue : ℕ) (part : Part) → has_come wires part ≡ false
      → brought_by queue (on_interface (λ ni. interface_absorb ni wires) part) ≡ 0
  brought-latched queue (Interface ni) none =
      ap (λ (flit : Option Flit). words_for queue (last_of (arrival_of flit)))
      (none-unless (flit_on wires ni.entering.0) (λ some. cc (sym none ∙ some)))
  brought-latched queue (Router router) none = refl
  brought-latched queue (TableRouter router) none = refl
  brought-latched queue (Stage stage) none = refl

  brought-found : (queue : ℕ) (found : Option Part) (part : Part)
      → option_map_or (has_come wires) found false ≡ false
      → option_map (on_interface (λ ni. interface_absorb ni wires)) found ≡ Some part
      → brought_by queue part ≡ 0
  brought-found queue None part none is = absurd (cc is)
  brought-found queue (Some before) part none is =
      subst (λ (part : Part). brought_by queue part ≡ 0)
      (same_Some (on_interface (λ ni. interface_absorb ni wires) before) part is)
      (brought-latched queue before none)

  brings-latched : (channel_state : ChannelState) (found : Option Part)
      → slice_get parts channel_state.receiver.ni.0 ≡ found
      → came_to wires parts channel_state.receiver.ni.0 ≡ false
      → brings (interfaces_latched wires parts) channel_state ≡ 0
  brings-latched channel_state found there none =
      let latch = on_interface (λ ni. interface_absorb ni wires) in
      let is = slice_get-map latch parts channel_state.receiver.ni.0
      ∙ ap (option_map latch) there in
      let isnt : option_map_or (has_come wires) found false ≡ false =
      ap (λ (found : Option Part). option_map_or (has_come wires) found false) (sym there) ∙ none in
      brings-found (interfaces_latched wires parts) channel_state (option_map latch found) is
      (λ part same. brought-found channel_state.receiver.queue found part isnt same)

-- So all channels are counted once the first wires have all flits.
module _ (wires first : List (Option Flit)) (parts : List Part)
    (same : (wire : ℕ) → flit_on first wire ≡ flit_on wires wire) (cycle : ℕ) where
  agree-all : (channel_state : ChannelState)
      → Agree cycle (interfaces_latched wires parts) (came_to first parts) (λ i. true) channel_state
  agree-all channel_state =
      let i = channel_state.receiver.ni.0 in
      let come = came-found wires first parts i (slice_get parts i) refl (λ ni at. same ni.entering.0) in
      elim (cases_Bool (came_to first parts i)) [
        | inl came ↦ inl came
        | inr none ↦
            inr (brings-latched wires parts channel_state (slice_get parts i) refl
            (sym come ∙ none))
      ]

  pub counts-all : (channel_states : List ChannelState)
      → map (counted_among (came_to first parts) cycle (interfaces_latched wires parts))
      channel_states
      ≡ map (counted cycle (interfaces_latched wires parts)) channel_states
  counts-all =
      counts-agree cycle (interfaces_latched wires parts) (came_to first parts) (λ i. true) agree-all

  pub notes-all : (channel_states : List ChannelState) (landings : List ℕ)
      → fold (noted_among (came_to first parts) cycle (interfaces_latched wires parts)) landings
      channel_states
      ≡ fold (noted cycle (interfaces_latched wires parts)) landings channel_states
  notes-all =
      notes-agree cycle (interfaces_latched wires parts) (came_to first parts) (λ i. true) agree-all
