use Rattle.std.proofs.Common.{[], ◌≡◌, ◌<◌, ◌≤◌, ◌+◌, ◌*◌, ◌∙◌, Some, ap, arith, get_or, length}
use Rattle.std.proofs.Common.{sym, take, slice_get, take_all}
use Rattle.std.proofs.lemmas.Option.{same_Some, slice_get-get_or}
use Rattle.aeth_slots.specs.SlotSet.{Slots, joined, slots_where}
use Rattle.aeth_group.proofs.TableLemmas.{mask_size}
use Rattle.aeth_explain.specs.SlotTables.{taken_by}
use Rattle.aeth_explain.proofs.MaskLemmas.{taken-more, taken-none}
use Rattle.aeth_explain.proofs.slot_tables.joined_at.Goals as goal

-- No use case has any.
pub loop-i-init : goal.loop-i-init
loop-i-init c = record {
  size = ap (λ (s : Slots). s.size) c.empty-slots.ensures ∙ c.slots.ensures.slots;
  slots = λ test table. c.empty-slots.ensures
      ∙ ap (λ n. record { size = n; slots = [] }) c.slots.ensures.slots
      ∙ taken-none c.args.chip.now.slots test c.args.link;
}

-- The mask is of the table's size.
pub join-slots-requires : goal.join-slots-requires
join-slots-requires c =
    let links = length c.args.chip.now.links in
    let u = get_or c.args.uses.now c.loop-i.i 0 in
    let row = c.requires.rows c.loop-i.i 0 c.loop-i-test.true in
    let within : u * links + c.args.link < length c.args.masks.now =
    omega (arith, row, c.requires.link) in
    let at = rw c.links-links.ensures.links at c.index-masks-at.is in
    c.loop-i.invariant.size
    ∙ sym (mask_size c.args.chip.now.slots links c.args.masks.now u c.args.link
    c.index-masks-at.result c.requires.table c.requires.link within)
    ∙ sym (ap (λ (s : Slots). s.size) at)

-- The row lies within the table.
pub bounds-masks-at : goal.bounds-masks-at
bounds-masks-at c =
    let links = length c.args.chip.now.links in
    let u = get_or c.args.uses.now c.loop-i.i 0 in
    let row = c.requires.rows c.loop-i.i 0 c.loop-i-test.true in
    let within : u * links + c.args.link < length c.args.masks.now =
    omega (arith, row, c.requires.link) in
    rw c.links-links.ensures.links within

-- One use case more.
pub loop-i-preserved : goal.loop-i-preserved
loop-i-preserved c = record {
  size = ap (λ (s : Slots). s.size) c.join-slots.ensures ∙ c.loop-i.invariant.size;
  slots = λ test table.
      let size = c.args.chip.now.slots in
      let links = length c.args.chip.now.links in
      let uses = c.args.uses.now in
      let i = c.loop-i.i in
      let u = get_or uses i 0 in
      let link = c.args.link in
      let masks = c.args.masks.now in
      let mask = c.index-masks-at.result in
      let row = c.requires.rows i 0 c.loop-i-test.true in
      let within : u * links + link < length masks = omega (arith, row, c.requires.link) in
      let at = rw c.links-links.ensures.links at c.index-masks-at.is in
      let found : slice_get masks (u * links + link) ≡ Some mask =
      slice_get-get_or masks (u * links + link) mask within ∙ ap Some (sym at) in
      let is : mask ≡ slots_where size (test u link) =
      same_Some _ _ (sym found ∙ table u link c.requires.link within) in
      c.join-slots.ensures
      ∙ ap (λ s. joined s mask) (c.loop-i.invariant.slots test table)
      ∙ ap (joined (taken_by size test (take i uses) link)) is
      ∙ taken-more size test uses i u link (slice_get-get_or uses i 0 c.loop-i-test.true);
}

-- All of them.
pub returns : goal.returns
returns c test table =
    let uses = c.args.uses.now in
    let end : length uses ≤ c.loop-i.i = omega (arith, c.loop-i-test.false) in
    c.loop-i.invariant.slots test table
    ∙ ap (λ us. taken_by c.args.chip.now.slots test us c.args.link) (take_all c.loop-i.i uses end)
