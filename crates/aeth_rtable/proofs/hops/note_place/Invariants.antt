use Rattle.std.proofs.Common.{◌<◌, List, Option, All}
use Rattle.aeth_base.specs.declared.ids.LinkId.{LinkId}
use Rattle.aeth_slots.specs.SlotSet.{rotated}
use Rattle.aeth_chip.specs.Paths.{offset}
use Rattle.aeth_rtable.specs.{Entries.Adds, Hops.hops_between}
use Rattle.aeth_rtable.proofs.hops.note_place.Given as goal

-- The hops in the slots that are left are still to be noted.
abbrev pub invariant-loop-slot : goal.invariant-loop-slot
invariant-loop-slot l = record {
  below : All (λ slot. slot < l.slots) l.slot-iterator;
  left : (final : List (Option LinkId))
      → Adds l.slots (hops_between l.from l.to l.slot-iterator) l.entries final
      → Adds l.slots (hops_between l.from l.to (rotated (offset l.chip.links l.grant.path l.place) l.grant.slots).slots) l.fn.entries final;
}
