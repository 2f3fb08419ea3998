use Rattle.std.proofs.Common.{◌≡◌, ◌*◌, ◌∙◌, List, [], Option, drop, filter, length, subst, sym}
use Rattle.std.proofs.Common.{flat_map, take_at}
use Rattle.aeth_base.specs.declared.ids.LinkId.{LinkId}
use Rattle.aeth_group.specs.{Members.has_unit, declared.grant.Grant.Grant}
use Rattle.aeth_rtable.specs.{Entries.HasEntries, Hops.hops_in, Hops.hops_of}
use Rattle.aeth_rtable.proofs.EntryLaws.{none_noted}
use Rattle.aeth_rtable.proofs.hops.entries_in.Goals as goal

-- Where there was no entry, there are those of the hops.
pub returns-clause-entries : goal.returns-clause-entries
returns-clause-entries c =
    let chip = c.args.chip.now in
    let made = c.in_ok-entries.entries in
    let new = c.note_grants.new.entries in
    let hops = hops_in chip c.args.groups.now c.args.plan.now c.args.u.0 in
    let none = subst (λ (entries : List (Option LinkId)). HasEntries chip.slots [] entries)
    (sym (c.deref_mut.ensures.value ∙ c.in_ok-entries.ensures))
    (none_noted chip.slots (length chip.links * chip.slots)) in
    let all = subst (λ (grants : List Grant). HasEntries chip.slots (flat_map (hops_of chip.links)
    (filter (λ (grant : Grant). has_unit c.args.groups.now grant.unit c.args.u.0) grants)) new)
    c.grants.ensures (c.note_grants.ensures [] none) in
    let count : length new ≡ made.len = c.note_grants.auto.entries ∙ c.deref_mut.ensures.len in
    subst (λ (entries : List (Option LinkId)). HasEntries chip.slots hops entries)
    (sym (take_at new (drop (length new) made.items) made.len count)) all
