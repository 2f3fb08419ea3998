-- Masks that hold grants.
use Rattle.std.proofs.Common.{◌≡◌, ◌∙◌, ◌+◌, ◌*◌, ◌&&◌, ◌||◌, ℕ, Bool, true, false, cond, List, []}
use Rattle.std.proofs.Common.{◌∷◌, All, Some, length, ltb, eqb, refl, sym, ap, inl, inr, le-ltb}
use Rattle.std.proofs.Common.{lt-ltb}
use Rattle.std.proofs.lemmas.{Bool.cases_lt, Option.slice_get-get_or, Option.slice_get_past}
use Rattle.std.specs.List.{range_with_len}
use Rattle.aeth_base.proofs.Filters.{filter-none}
use Rattle.aeth_slots.specs.SlotSet.{Slots}
use Rattle.aeth_chip.specs.Chip.{ChipData}
use Rattle.aeth_group.specs.{Members.GroupsData, Members.group_at, Members.has_unit}
use Rattle.aeth_group.specs.{Members.use_has, Occupation.enters, declared.grant.Grant.Grant}
use Rattle.aeth_group.specs.{Tables.Changes, Tables.hits_uses}
use Rattle.aeth_group.proofs.TableLemmas.{table-same}
use Rattle.aeth_check.specs.Masks.{Holds, is_held}

-- Masks without slots hold no grant.
pub holds-none : (chip : ChipData) (groups : GroupsData) (masks : List Slots)
    → All (λ (mask : Slots). mask ≡ record { size = chip.slots; slots = [] }) masks
    → Holds chip groups [] masks
holds-none chip groups masks empty u l low within =
    let nothing : Slots = record { size = chip.slots; slots = [] } in
    slice_get-get_or masks (u * length chip.links + l) nothing within
    ∙ ap Some (empty (u * length chip.links + l) nothing within)
    ∙ ap (λ slots. Some (record { size = chip.slots; slots = slots }))
    (sym (filter-none (range_with_len 0 chip.slots)))

beyond : (groups : GroupsData) (grant : Grant) (u : ℕ) (on : Bool)
    → (ltb u (length groups.uses) && (has_unit groups grant.unit u && on))
    ≡ (has_unit groups grant.unit u && on)
beyond groups grant u on = elim (cases_lt u (length groups.uses)) [
  | inl below ↦ rw (lt-ltb u (length groups.uses) below) refl
  | inr past ↦
      rw (le-ltb u (length groups.uses) past)
      (sym (ap (λ o. (use_has o grant.unit.conn.0
      && eqb (group_at groups u) grant.unit.group.0) && on) (slice_get_past groups.uses u past)))
]

put-or : (hit held : Bool) → cond hit true held ≡ (hit || held)
put-or true held = refl
put-or false held = refl

-- What was put into masks is held beside what they held.
pub holds-more : (chip : ChipData) (groups : GroupsData) (grant : Grant) (grants : List Grant)
    (old new : List Slots)
    → Changes chip.slots (length chip.links) (hits_uses grant.slots chip.links groups grant.unit
    grant.path (length groups.uses)) true old new
    → Holds chip groups grants old → Holds chip groups (grant ∷ grants) new
holds-more chip groups grant grants old new puts holds =
    table-same chip.slots (length chip.links) _ (is_held chip.links groups (grant ∷ grants)) new
    (puts.table (is_held chip.links groups grants) holds)
    (λ u l s low within below. put-or _ (is_held chip.links groups grants u l s)
    ∙ ap (λ b. b || is_held chip.links groups grants u l s)
    (beyond groups grant u (enters grant.slots chip.links 0 grant.path l s)))
