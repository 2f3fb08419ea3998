-- What interfaces tell of the last flit: nothing before the first cycle, and nothing of empty wires.
use Rattle.std.proofs.Common.{◌≡◌, ◌∙◌, ◌++◌, ◌-◌, ℕ, Contains, List, None, Option, Some, ap, inl}
use Rattle.std.proofs.Common.{inr, length, map, refl, slice_get, sym}
use Rattle.std.proofs.lemmas.{List.Elements.Contains-append_cases, Option.slice_get-map}
use Rattle.std.specs.{List.range_with_len, Option.option_map}
use Rattle.aeth_base.proofs.Members.{Contains-slice_get, flat_map-Contains, map-Contains}
use Rattle.aeth_chip.specs.{Chip.ChipData, Paths.delay_of}
use Rattle.aeth_clocked.specs.{Wires.flit_on, declared.flit.Flit.Flit}
use Rattle.aeth_ni.specs.Interface.{InterfaceState}
use Rattle.aeth_ni.specs.Writes.{written}
use Rattle.aeth_ni.specs.declared.write.Write.{Write}
use Rattle.aeth_ni.specs.declared.write.Write.TheVariants.{ClearRoute, ClearSlot, SetRoute, SetSlot}
use Rattle.aeth_router.specs.Part.{absorb_of}
use Rattle.aeth_router.specs.declared.part.Part.{Part}
use Rattle.aeth_router.specs.declared.part.Part.TheVariants.{Interface, Router, Stage, TableRouter}
use Rattle.aeth_components.proofs.{WiringLemmas.from-map, PartLemmas.views-switched}
use Rattle.aeth_components.proofs.{SeenPhases.view-kept}
use Rattle.aeth_components.specs.Changes.{event_done, switched}
use Rattle.aeth_components.specs.Making.{link_stages, made_interface, made_router, made_stage}
use Rattle.aeth_components.specs.Making.{made_stages, new_parts}
use Rattle.aeth_components.specs.declared.event.Event.{Event}
use Rattle.aeth_components.specs.declared.event.Event.TheVariants.{Change, Finish, Halt}
use Rattle.aeth_components.specs.declared.making.RouterKind.TheVariants.{ByHeader}

-- The queue and the number of words of the last flit that came to an interface, if one did; a router or a
-- stage tells of none.
abbrev last_of : Part → Option (ℕ × ℕ)
last_of (Interface ni) = ni.last
last_of (Router router) = None
last_of (TableRouter router) = None
last_of (Stage stage) = None

-- Events leave that as it is.
last-written : (write : Write) (ni : InterfaceState) → (written write ni).last ≡ ni.last
last-written (ClearSlot to slot) ni = refl
last-written (ClearRoute to queue) ni = refl
last-written (SetRoute to queue route remote credits) ni = refl
last-written (SetSlot to slot queue) ni = refl

last-event : (event : Event) (ni : InterfaceState) → (event_done event ni).last ≡ ni.last
last-event (Halt end) ni = refl
last-event (Finish end) ni = refl
last-event (Change write) ni = last-written write ni

lasts-switched : (events : List Event) (parts : List Part)
    → map last_of (switched events parts) ≡ map last_of parts
lasts-switched =
    views-switched last_of (λ event. view-kept last_of (event_done event) (last-event event))

-- Fresh components tell of none.
last-made : (chip : ChipData) (rooms : List ℕ) (part : Part) → Contains (new_parts chip ByHeader rooms) part
    → last_of part ≡ None
last-made chip rooms part has =
    let interfaces = map (made_interface chip rooms) (range_with_len 0 (length chip.nis)) in
    let routers = map (made_router chip ByHeader) (range_with_len 0 (length chip.routers)) in
    let stages = made_stages chip.links (length chip.links) in
    elim (Contains-append_cases (interfaces ++ routers) stages part has) [
      | inl former ↦ elim (Contains-append_cases interfaces routers part former) [
        | inl first ↦
            let (number, is, listed) = map-Contains (made_interface chip rooms)
            (range_with_len 0 (length chip.nis)) part first in
            sym (ap last_of is)
        | inr second ↦
            let (number, is, listed) = map-Contains (made_router chip ByHeader)
            (range_with_len 0 (length chip.routers)) part second in
            sym (ap last_of is)
      ]
      | inr third ↦
          let (link, listed, own) = flat_map-Contains (link_stages chip.links)
          (range_with_len 0 (length chip.links)) part third in
          let (place, is, there) = map-Contains (made_stage chip.links link)
          (range_with_len 0 (delay_of chip.links (record { 0 = link }) - 1)) part own in
          sym (ap last_of is)
    ]

-- Nor do they once events are done.
pub last-loaded : (chip : ChipData) (rooms : List ℕ) (events : List Event) (i : ℕ)
    (ni : InterfaceState)
    → slice_get (switched events (new_parts chip ByHeader rooms)) i ≡ Some (Interface ni) → ni.last ≡ None
last-loaded chip rooms events i ni at =
    let made = new_parts chip ByHeader rooms in
    let (part, there, same) = from-map last_of made i ni.last
    (ap (λ (all : List (Option (ℕ × ℕ))). slice_get all i) (sym (lasts-switched events made))
    ∙ slice_get-map last_of (switched events made) i ∙ ap (option_map last_of) at) in
    same ∙ last-made chip rooms part (Contains-slice_get made i part there)

-- What has latched empty wires tells of none.
last-absorbed : (wires : List (Option Flit)) → ((l : ℕ) → flit_on wires l ≡ None) → (part : Part)
    → last_of (absorb_of part wires) ≡ None
last-absorbed wires empty (Interface ni) = rw (empty ni.entering.0) refl
last-absorbed wires empty (Router router) = refl
last-absorbed wires empty (TableRouter router) = refl
last-absorbed wires empty (Stage stage) = refl

pub last-latched : (wires : List (Option Flit)) → ((l : ℕ) → flit_on wires l ≡ None)
    → (parts : List Part) (i : ℕ) (ni : InterfaceState)
    → slice_get (map (λ part. absorb_of part wires) parts) i ≡ Some (Interface ni) → ni.last ≡ None
last-latched wires empty parts i ni at =
    let (part, there, same) = from-map (λ part. absorb_of part wires) parts i (Interface ni) at in
    ap last_of same ∙ last-absorbed wires empty part
