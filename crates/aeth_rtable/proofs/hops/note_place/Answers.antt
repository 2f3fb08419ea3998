use Rattle.std.proofs.Common.{◌≡◌, ◌<◌, ◌-◌, ◌*◌, ◌∙◌, ℕ, suc, List, [], ◌∷◌, All, length, sym, ap}
use Rattle.std.proofs.Common.{subst, arith}
use Rattle.std.proofs.Math.Nat.{mul_comm}
use Rattle.std.proofs.lemmas.Nat.{mul-add-lt}
use Rattle.aeth_base.{specs.declared.ids.LinkId.LinkId, proofs.Members.All-slice_get}
use Rattle.aeth_slots.specs.SlotSet.{Slots, rotated}
use Rattle.aeth_chip.specs.Paths.{offset}
use Rattle.aeth_rtable.specs.Entries.{Adds}
use Rattle.aeth_rtable.specs.Hops.{hop_between, hops_at, hops_between, link_at}
use Rattle.aeth_rtable.proofs.{EntryLaws.Adds-none, EntryLaws.Adds-then, HopLaws.link_at-is}
use Rattle.aeth_rtable.proofs.{Lists.all_below}
use Rattle.aeth_rtable.proofs.hops.note_place.Goals as goal

-- All slots are still to come, and each is of the table.
pub loop-slot-init : goal.loop-slot-init
loop-slot-init c =
    let grant = c.args.grant.now in
    let set = c.rotate-entered.result in
    let links = c.args.chip.now.links in
    let come : c.into_iter-slot-iterator.result ≡ set.slots =
    c.into_iter-slot-iterator.ensures.into_iter_gives ∙ c.iter-slot-items.ensures in
    let is : set ≡ rotated (offset links grant.path c.args.place) grant.slots =
    c.rotate-entered.ensures ∙ ap (λ (n : ℕ). rotated n grant.slots) c.offset.ensures.offset in
    let all = all_below set.size set.slots c.size-slots.ensures.set.ascends in
    let few = subst (λ (n : ℕ). All (λ slot. slot < n) set.slots) (sym c.size-slots.ensures.size) all
    in
    record {
      below = subst (λ (xs : List ℕ). All (λ slot. slot < c.size-slots.result) xs) (sym come) few;
      left = λ final later. subst (λ (xs : List ℕ). Adds c.size-slots.result
          (hops_between c.link-from.result c.link-to.result xs) c.args.entries.now final)
          (come ∙ ap (λ (s : Slots). s.slots) is) later;
    }

-- The next slot is of the table.
pub note-requires-clause-slot : goal.note-requires-clause-slot
note-requires-clause-slot c =
    let all = rw c.in-Some.ensures.steps at c.loop-slot.invariant.below in
    all 0 0 (omega arith)

-- Its place is there.
pub note-requires-clause-room : goal.note-requires-clause-room
note-requires-clause-room c =
    let chip = c.args.chip.now in
    let links = length chip.links in
    let slots = c.size-slots.result in
    let below = note-requires-clause-slot c in
    let to = All-slice_get (λ (k : LinkId). k.0 < links) c.args.grant.now.path c.args.place
    c.link-to.result c.requires.grant.links c.link-to.ensures in
    let size : slots ≡ chip.slots = c.size-slots.ensures.size
    ∙ ap (λ (s : Slots). s.size) c.rotate-entered.ensures ∙ c.requires.grant.size in
    let room : length c.loop-slot.entries ≡ links * slots =
    c.loop-slot.auto.entries ∙ c.requires.room ∙ ap (λ (n : ℕ). links * n) (sym size) in
    let place = mul-add-lt c.link-to.result.0 slots c.in-Some.slot links to below in
    omega (arith, place, room, mul_comm slots links)

-- It is noted.
pub loop-slot-preserved : goal.loop-slot-preserved
loop-slot-preserved c =
    let from = c.link-from.result in
    let to = c.link-to.result in
    let slots = c.size-slots.result in
    let all = rw c.in-Some.ensures.steps at c.loop-slot.invariant.below in
    let left = rw c.in-Some.ensures.steps at c.loop-slot.invariant.left in
    record {
      below = λ k d within. all (suc k) d (omega arith);
      left = λ final later. left final (Adds-then slots (hop_between from to c.in-Some.slot ∷ [])
          (hops_between from to c.next.new.self) c.loop-slot.entries c.note.new.entries final
          c.note.ensures later);
    }

-- All are.
pub returns : goal.returns
returns c =
    let chip = c.args.chip.now in
    let grant = c.args.grant.now in
    let old = c.args.entries.now in
    let new = c.loop-slot.entries in
    let slots = c.size-slots.result in
    let entered = (rotated (offset chip.links grant.path c.args.place) grant.slots).slots in
    let size : slots ≡ chip.slots = c.size-slots.ensures.size
    ∙ ap (λ (s : Slots). s.size) c.rotate-entered.ensures ∙ c.requires.grant.size in
    let left = rw c.in-None.ensures.steps.0 at c.loop-slot.invariant.left in
    let all = left new (Adds-none slots new) in
    let from = link_at-is grant.path (c.args.place - 1) c.link-from.result c.link-from.ensures in
    let to = link_at-is grant.path c.args.place c.link-to.result c.link-to.ensures in
    subst (λ (n : ℕ). Adds n (hops_at chip.links grant c.args.place) old new) size
    (subst (λ (l : LinkId). Adds slots (hops_between l (link_at grant.path c.args.place) entered) old new)
    (sym from)
    (subst (λ (l : LinkId). Adds slots (hops_between c.link-from.result l entered) old new) (sym to)
    all))
