-- The components of a chip with routers of either kind have the same wirings and slot tables.
use Rattle.std.proofs.Common.{ℕ, ◌≡◌, ◌∙◌, refl, sym, ap, List, [], ◌∷◌, ◌++◌, length, map}
use Rattle.std.proofs.lemmas.List.{length-map, map-append}
use Rattle.std.specs.List.{range_with_len}
use Rattle.aeth_chip.specs.Chip.{ChipData}
use Rattle.aeth_router.specs.declared.part.Part.{Part}
use Rattle.aeth_components.specs.declared.making.RouterKind.{RouterKind}
use Rattle.aeth_components.specs.declared.making.RouterKind.TheVariants.{ByHeader, ByTable}
use Rattle.aeth_components.specs.Components.{part_count}
use Rattle.aeth_components.specs.Wirings.{wiring_of}
use Rattle.aeth_components.specs.Injecting.{entries_of}
use Rattle.aeth_components.specs.Making.{made_interface, made_router, made_stages, new_parts}
use Rattle.aeth_components.proofs.MadeLemmas.{length-new_parts}

-- What is the same of one router of either kind is the same of all components.
module _ {X : Type 0} (view : Part → X) (chip : ChipData) (rooms : List ℕ) (kind : RouterKind)
    (same : (r : ℕ) → view (made_router chip kind r) ≡ view (made_router chip ByHeader r)) where
  routers-kind : (numbers : List ℕ)
      → map view (map (made_router chip kind) numbers)
      ≡ map view (map (made_router chip ByHeader) numbers)
  routers-kind [] = refl
  routers-kind (number ∷ numbers) = rw (same number, routers-kind numbers) refl

  -- The components of a kind, seen in their three runs.
  views-apart : (kind : RouterKind)
      → let interfaces = map (made_interface chip rooms) (range_with_len 0 (length chip.nis)) in
      let routers = map (made_router chip kind) (range_with_len 0 (length chip.routers)) in
      map view (new_parts chip kind rooms) ≡ (map view interfaces ++ map view routers)
      ++ map view (made_stages chip.links (length chip.links))
  views-apart kind =
      let interfaces = map (made_interface chip rooms) (range_with_len 0 (length chip.nis)) in
      let routers = map (made_router chip kind) (range_with_len 0 (length chip.routers)) in
      let stages = made_stages chip.links (length chip.links) in
      map-append view (interfaces ++ routers) stages
      ∙ ap (λ (front : List X). front ++ map view stages) (map-append view interfaces routers)

  views-kind : map view (new_parts chip kind rooms) ≡ map view (new_parts chip ByHeader rooms)
  views-kind =
      let interfaces = map (made_interface chip rooms) (range_with_len 0 (length chip.nis)) in
      let stages = made_stages chip.links (length chip.links) in
      views-apart kind
      ∙ ap (λ (routers : List X). (map view interfaces ++ routers) ++ map view stages)
      (routers-kind (range_with_len 0 (length chip.routers)))
      ∙ sym (views-apart ByHeader)

-- A router has the same wires whatever its kind, and no slot table.
wiring-kind : (chip : ChipData) (kind : RouterKind) (r : ℕ)
    → wiring_of (made_router chip kind r) ≡ wiring_of (made_router chip ByHeader r)
wiring-kind chip ByHeader r = refl
wiring-kind chip ByTable r = refl

entries-kind : (chip : ChipData) (kind : RouterKind) (r : ℕ)
    → entries_of (made_router chip kind r) ≡ entries_of (made_router chip ByHeader r)
entries-kind chip ByHeader r = refl
entries-kind chip ByTable r = refl

module _ (chip : ChipData) (kind : RouterKind) (rooms : List ℕ) where
  -- The wirings of the components of a chip don't depend on the kind of its routers.
  pub wirings-kind : map wiring_of (new_parts chip kind rooms)
      ≡ map wiring_of (new_parts chip ByHeader rooms)
  wirings-kind = views-kind wiring_of chip rooms kind (wiring-kind chip kind)

  -- Nor do their slot tables.
  pub tables-kind : map entries_of (new_parts chip kind rooms)
      ≡ map entries_of (new_parts chip ByHeader rooms)
  tables-kind = views-kind entries_of chip rooms kind (entries-kind chip kind)

  -- Nor does their number.
  pub length-kind : length (new_parts chip kind rooms) ≡ part_count chip
  length-kind =
      sym (length-map (new_parts chip kind rooms) wiring_of) ∙ ap length wirings-kind
      ∙ length-map (new_parts chip ByHeader rooms) wiring_of ∙ length-new_parts chip rooms
