use Rattle.std.proofs.Common.{◌<◌, ◌+◌, ◌*◌, ◌∙◌, length, sym, ap, arith}
use Rattle.std.proofs.lemmas.Option.{slice_get_within}
use Rattle.aeth_base.specs.declared.ids.LinkId.{LinkId}
use Rattle.aeth_chip.specs.Paths.{offset}
use Rattle.aeth_slots.specs.SlotSet.{Slots}
use Rattle.aeth_group.proofs.{ListLemmas.all_at, TableLemmas.mask_size}
use Rattle.aeth_check.proofs.MeetLaws.{mask_meets, meets_here, meets_on}
use Rattle.aeth_check.proofs.TakenLaws.{taken-set, taken-within}
use Rattle.aeth_check.proofs.masks.meets_row.Goals as goal

-- The link has a set.
pub taken_at-set-requires : goal.taken_at-set-requires
taken_at-set-requires c =
    taken-within c.args.chip.now.links c.args.grant.now c.args.sets.now c.requires.sets c.loop-i.i
    (slice_get_within c.args.grant.now.path c.loop-i.i c.link-link.result c.link-link.ensures)

-- The mask is of the table's size.
pub have_common-requires : goal.have_common-requires
have_common-requires c =
    let links = c.args.chip.now.links in
    let low : c.link-link.result.0 < length links =
    all_at (λ (k : LinkId). k.0 < length links) _ _ _ c.requires.grant.links
    c.link-link.ensures in
    let within : c.args.u * length links + c.link-link.result.0 < length c.args.masks.now =
    omega (arith, c.requires.row) in
    let is = taken-set links c.args.grant.now c.args.sets.now c.requires.sets c.loop-i.i
    c.taken_at-set.result
    (slice_get_within c.args.grant.now.path c.loop-i.i c.link-link.result c.link-link.ensures)
    c.taken_at-set.ensures in
    ap (λ (s : Slots). s.size) (rw c.links.ensures.links at c.index-masks-at.is)
    ∙ mask_size c.args.chip.now.slots (length links) c.args.masks.now c.args.u
    c.link-link.result.0 c.index-masks-at.result c.requires.table low within
    ∙ sym c.requires.grant.size ∙ sym (ap (λ (s : Slots). s.size) is)

-- Here flits meet.
pub returns-then-have_common : goal.returns-then-have_common
returns-then-have_common c = λ test table.
    let links = c.args.chip.now.links in
    let low : c.link-link.result.0 < length links =
    all_at (λ (k : LinkId). k.0 < length links) _ _ _ c.requires.grant.links
    c.link-link.ensures in
    let within : c.args.u * length links + c.link-link.result.0 < length c.args.masks.now =
    omega (arith, c.requires.row) in
    let is = taken-set links c.args.grant.now c.args.sets.now c.requires.sets c.loop-i.i
    c.taken_at-set.result
    (slice_get_within c.args.grant.now.path c.loop-i.i c.link-link.result c.link-link.ensures)
    c.taken_at-set.ensures in
    let path = c.args.grant.now.path in
    meets_here (test c.args.u) c.args.grant.now.slots links path c.loop-i.i c.link-link.result
    c.link-link.ensures _ (c.loop-i.invariant test table)
    (sym (mask_meets c.args.chip.now.slots (length links) c.args.u c.link-link.result.0 test
    c.args.masks.now c.index-masks-at.result c.taken_at-set.result c.args.grant.now.slots
    (offset links path c.loop-i.i) c.have_common.result
    (omega (arith, c.requires.grant.some, c.requires.grant.size)) c.requires.grant.size table low
    within (rw c.links.ensures.links at c.index-masks-at.is)
    is c.have_common.ensures) ∙ c.if-have_common.true)

-- Here they don't.
pub loop-i-preserved : goal.loop-i-preserved
loop-i-preserved c = λ test table.
    let links = c.args.chip.now.links in
    let low : c.link-link.result.0 < length links =
    all_at (λ (k : LinkId). k.0 < length links) _ _ _ c.requires.grant.links
    c.link-link.ensures in
    let within : c.args.u * length links + c.link-link.result.0 < length c.args.masks.now =
    omega (arith, c.requires.row) in
    let is = taken-set links c.args.grant.now c.args.sets.now c.requires.sets c.loop-i.i
    c.taken_at-set.result
    (slice_get_within c.args.grant.now.path c.loop-i.i c.link-link.result c.link-link.ensures)
    c.taken_at-set.ensures in
    let path = c.args.grant.now.path in
    meets_on (test c.args.u) c.args.grant.now.slots links path c.loop-i.i c.link-link.result
    c.link-link.ensures _ (c.loop-i.invariant test table)
    (sym (mask_meets c.args.chip.now.slots (length links) c.args.u c.link-link.result.0 test
    c.args.masks.now c.index-masks-at.result c.taken_at-set.result c.args.grant.now.slots
    (offset links path c.loop-i.i) c.have_common.result
    (omega (arith, c.requires.grant.some, c.requires.grant.size)) c.requires.grant.size table low
    within (rw c.links.ensures.links at c.index-masks-at.is)
    is c.have_common.ensures) ∙ c.if-have_common.false)
