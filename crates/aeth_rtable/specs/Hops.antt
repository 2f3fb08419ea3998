-- Where the flits of grants go on at routers: from a link of their path to the next one.
--
--   link_at, hop_between, hops_between, hops_at, hops_of      the hops of a grant
--   grants_in, hops_in      those of a use case
--   entry_at      from which link flits come onto a link in a slot
-- Slots and links: after Æthereal (2005). Hops: this project's own.
use Rattle.std.proofs.Common.{ℕ, ◌-◌, ◌==◌, ◌&&◌, Bool, List, Option, filter, find, flat_map}
use Rattle.std.proofs.Common.{length, map, option_map}
use Rattle.std.specs.List.{range_with_len, slice_index_or}
use Rattle.aeth_base.specs.declared.ids.LinkId.{LinkId}
use Rattle.aeth_slots.specs.SlotSet.{rotated}
use Rattle.aeth_chip.specs.{Chip.ChipData, Paths.offset, declared.node.Link.Link}
use Rattle.aeth_group.specs.{Members.GroupsData, Members.has_unit, declared.grant.Grant.Grant}
use Rattle.aeth_plan.specs.Plan.{PlanData}
use Rattle.aeth_rtable.specs.declared.hops.Hop.{Hop}

-- The link at a place of a path; link 0 past its end.
abbrev pub link_at : List LinkId → ℕ → LinkId
link_at path place = slice_index_or path place (record { 0 = 0 })

-- The hop from a link to another in a slot.
abbrev pub hop_between : LinkId → LinkId → ℕ → Hop
hop_between from to slot = record { from = from; to = to; slot = slot }

-- The hops from a link to another, one in each of these slots.
abbrev pub hops_between : LinkId → LinkId → List ℕ → List Hop
hops_between from to slots = map (hop_between from to) slots

-- The hops of a grant at a place of its path: from the link before to the link there, in the slots in
-- which its flits enter it.
abbrev pub hops_at : List Link → Grant → ℕ → List Hop
hops_at links grant place =
    hops_between (link_at grant.path (place - 1)) (link_at grant.path place)
    (rotated (offset links grant.path place) grant.slots).slots

-- The hops of a grant: at each place of its path but the first.
abbrev pub hops_of : List Link → Grant → List Hop
hops_of links grant = flat_map (hops_at links grant) (range_with_len 1 (length grant.path - 1))

-- The grants of a use case.
abbrev pub grants_in : GroupsData → PlanData → ℕ → List Grant
grants_in groups plan u = filter (λ grant. has_unit groups grant.unit u) plan.grants

-- The hops of a use case: those of its grants.
abbrev pub hops_in : ChipData → GroupsData → PlanData → ℕ → List Hop
hops_in chip groups plan u = flat_map (hops_of chip.links) (grants_in groups plan u)

-- Whether a hop leads onto the link of this number in this slot.
abbrev pub leads_onto : ℕ → ℕ → Hop → Bool
leads_onto link slot hop = hop.to.0 == link && hop.slot == slot

-- From which link the first of some hops leads onto a link in a slot, if one does.
abbrev pub entry_at : List Hop → ℕ → ℕ → Option LinkId
entry_at hops link slot = option_map (λ hop. hop.from) (find (leads_onto link slot) hops)
