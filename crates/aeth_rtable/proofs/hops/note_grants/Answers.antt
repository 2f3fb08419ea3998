use Rattle.std.proofs.Common.{◌∙◌, List, filter, subst, sym, take, flat_map, take_all}
use Rattle.aeth_group.specs.{Members.has_unit, declared.grant.Grant.Grant}
use Rattle.aeth_rtable.specs.{Entries.Adds, Hops.hops_of, declared.hops.Hop.Hop}
use Rattle.aeth_rtable.proofs.EntryLaws.{Adds-none, Adds-then}
use Rattle.aeth_rtable.proofs.Lists.{kept_more, kept_same}
use Rattle.aeth_rtable.proofs.hops.note_grants.Goals.{else-has_unit, then-has_unit}
use Rattle.aeth_rtable.proofs.hops.note_grants.Goals as goal

-- Before the first grant nothing is noted.
pub loop-grant-init : goal.loop-grant-init
loop-grant-init c = Adds-none c.args.chip.now.slots c.args.entries.now

-- One more grant.
pub loop-grant-preserved : goal.loop-grant-preserved
loop-grant-preserved c =
    let chip = c.args.chip.now in
    let grants = c.args.grants.now in
    let old = c.args.entries.now in
    let i = c.loop-grant.grant-index in
    let one = c.grant-item.result in
    let test = λ (grant : Grant). has_unit c.args.groups.now grant.unit c.args.u.0 in
    let so_far = flat_map (hops_of chip.links) (filter test (take i grants)) in
    elim c.if-has_unit.branch [
      | then-has_unit w ↦
          rw w.entries-is
          (subst (λ (hops : List Hop). Adds chip.slots hops old w.note_grant.new.entries)
          (kept_more (hops_of chip.links) test grants i one c.loop-grant-test.true c.grant-item.is
          (sym c.has_unit.ensures ∙ w.if-has_unit.true))
          (Adds-then chip.slots so_far (hops_of chip.links one) old c.loop-grant.entries
          w.note_grant.new.entries c.loop-grant.invariant w.note_grant.ensures))
      | else-has_unit w ↦
          rw w.entries-is
          (subst (λ (hops : List Hop). Adds chip.slots hops old c.loop-grant.entries)
          (kept_same (hops_of chip.links) test grants i one c.loop-grant-test.true c.grant-item.is
          (sym c.has_unit.ensures ∙ w.if-has_unit.false)) c.loop-grant.invariant)
    ]

-- All grants.
pub returns : goal.returns
returns c =
    let grants = c.args.grants.now in
    let all = take_all c.loop-grant.grant-index grants c.loop-grant-test.false in
    subst (λ (gs : List Grant). Adds c.args.chip.now.slots (flat_map (hops_of c.args.chip.now.links)
    (filter (λ (grant : Grant). has_unit c.args.groups.now grant.unit c.args.u.0) gs))
    c.args.entries.now c.loop-grant.entries) all c.loop-grant.invariant
