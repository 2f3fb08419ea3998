-- What of components a change of queues leaves.
use Rattle.std.proofs.Common.{◌≡◌, ◌∙◌, ℕ, refl, map, List, [], ◌∷◌, Option, Some, None, length}
use Rattle.std.specs.List.{range_with_len}
use Rattle.aeth_ni.specs.{Interface.InterfaceState, Interface.changed, Queue.QueueState}
use Rattle.aeth_router.specs.declared.part.Part.{Part}
use Rattle.aeth_router.specs.declared.part.Part.TheVariants.{Interface, Router, Stage, TableRouter}
use Rattle.aeth_components.specs.{declared.event.Event.Event, Changes.event_done, Changes.happened}
use Rattle.aeth_components.specs.{Changes.on_interface, Changes.switched, Events.event_part}
use Rattle.aeth_components.specs.{Phases.Moment, Phases.in_turn, Phases.pulled, Phases.refilled}
use Rattle.aeth_components.proofs.PartLemmas.{views-with_part}
use Rattle.aeth_components.proofs.TurnLemmas.{views-pulled, views-refilled, views-turns}

-- A word of each component that no change of interfaces of some kind touches.
module _ {X : Type 0} (f : Part → X) where
  -- A word that no change of a queue touches.
  module _ (still : (queue : ℕ) (change : QueueState → QueueState) (part : Part)
      → f (on_interface (changed queue change) part) ≡ f part) where
    -- Neither refilling nor taking touches it.
    pub kept-refilling : (words : List ℕ) (cycle : ℕ) (moment : Moment)
        → map f (in_turn (refilled words cycle) moment).parts ≡ map f moment.parts
    kept-refilling words cycle moment =
        views-turns (refilled words cycle) f (views-refilled f still words cycle)
        (range_with_len 0 (length moment.channel_states)) moment

    pub kept-taking : (cycle : ℕ) (moment : Moment)
        → map f (in_turn (pulled cycle) moment).parts ≡ map f moment.parts
    kept-taking cycle moment =
        views-turns (pulled cycle) f (views-pulled f still cycle)
        (range_with_len 0 (length moment.channel_states)) moment

  -- Events that touch no more than interfaces.
  pub kept-switched : ((change : InterfaceState → InterfaceState) (part : Part)
      → f (on_interface change part) ≡ f part) → (events : List Event) (parts : List Part)
      → map f (switched events parts) ≡ map f parts
  kept-switched still [] parts = refl
  kept-switched still (event ∷ events) parts =
      kept-switched still events (happened parts event)
      ∙ views-with_part f (event_part event) (on_interface (event_done event))
      (still (event_done event)) parts

-- The entries of a component, and the component where it is no interface.
abbrev pub entries_in : Part → List (Option ℕ)
entries_in (Interface ni) = ni.entries
entries_in (Router router) = []
entries_in (TableRouter router) = []
entries_in (Stage stage) = []

abbrev pub hardware_in : Part → Option Part
hardware_in (Interface ni) = None
hardware_in (Router router) = Some (Router router)
hardware_in (TableRouter router) = Some (TableRouter router)
hardware_in (Stage stage) = Some (Stage stage)

pub entries_in-changed : (queue : ℕ) (change : QueueState → QueueState) (part : Part)
    → entries_in (on_interface (changed queue change) part) ≡ entries_in part
entries_in-changed queue change (Interface ni) = refl
entries_in-changed queue change (Router router) = refl
entries_in-changed queue change (TableRouter router) = refl
entries_in-changed queue change (Stage stage) = refl

pub hardware_in-interface : (change : InterfaceState → InterfaceState) (part : Part)
    → hardware_in (on_interface change part) ≡ hardware_in part
hardware_in-interface change (Interface ni) = refl
hardware_in-interface change (Router router) = refl
hardware_in-interface change (TableRouter router) = refl
hardware_in-interface change (Stage stage) = refl

pub hardware_in-changed : (queue : ℕ) (change : QueueState → QueueState) (part : Part)
    → hardware_in (on_interface (changed queue change) part) ≡ hardware_in part
hardware_in-changed queue change part = hardware_in-interface (changed queue change) part

-- Events touch no router and no stage.
pub hardware-switched : (events : List Event) (parts : List Part)
    → map hardware_in (switched events parts) ≡ map hardware_in parts
hardware-switched = kept-switched hardware_in hardware_in-interface
