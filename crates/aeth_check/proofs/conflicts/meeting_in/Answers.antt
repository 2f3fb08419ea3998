use Rattle.std.proofs.Common.{◌∙◌, ◌-◌, ◌≡◌, ◌∷◌, [], List, Some, drop, length, sym, ap, subst}
use Rattle.std.proofs.Common.{arith}
use Rattle.std.proofs.lemmas.{Bool.cond-false, Bool.cond-true, List.drop_all}
use Rattle.aeth_group.specs.declared.grant.Grant.{Grant}
use Rattle.aeth_check.specs.{Calls.first_meeting, Masks.Holds, Masks.is_held, Meetings.conflicts}
use Rattle.aeth_check.proofs.MeetingLaws.{drop_back, meeting_back, meeting_within}
use Rattle.aeth_check.proofs.conflicts.meeting_in.Goals.{else-meets_some, then-meets_some}
use Rattle.aeth_check.proofs.conflicts.meeting_in.Goals as goal

-- Behind the last grant there is none.
pub grants-init : goal.grants-init
grants-init c =
    let grants = c.args.grants.now in
    let none : drop (length grants) grants ≡ [] = drop_all (length grants) grants (omega arith) in
    record {
      within = omega arith;
      held = subst (λ (gs : List Grant). Holds c.args.chip.now c.args.groups.now gs
          c.args.masks.now) (sym none) c.requires.empty;
      found = sym (ap (first_meeting (conflicts c.args.chip.now.links c.args.groups.now)
          (length grants)) none);
    }

-- The masks hold the grants behind.
pub meets_some-requires-clause-table : goal.meets_some-requires-clause-table
meets_some-requires-clause-table c = (
  is_held c.args.chip.now.links c.args.groups.now (drop c.grants.left c.args.grants.now),
  c.grants.invariant.held,
)

pub hold-requires-clause-table : goal.hold-requires-clause-table
hold-requires-clause-table c = (
  is_held c.args.chip.now.links c.args.groups.now (drop c.grants.left c.args.grants.now),
  c.grants.invariant.held,
)

-- One grant more is met with those behind it, and held.
pub grants-preserved : goal.grants-preserved
grants-preserved c =
    let grants = c.args.grants.now in
    let left = c.grants.left in
    let grant = c.index-grants-left.result in
    let behind = drop left grants in
    let at : drop (left - 1) grants ≡ grant ∷ behind =
    drop_back grants left grant c.grants-test.true c.grants.invariant.within
    c.index-grants-left.is in
    record {
      within = omega (arith, c.grants.invariant.within);
      held = subst (λ (gs : List Grant). Holds c.args.chip.now c.args.groups.now gs
          c.hold.new.masks) (sym at) (c.hold.ensures behind c.grants.invariant.held);
      found = meeting_back (conflicts c.args.chip.now.links c.args.groups.now) grants left grant
          c.grants.found c.if-meets_some.found c.meets_some.result c.grants-test.true at
          c.grants.invariant.found (c.meets_some.ensures behind c.grants.invariant.held)
          (elim c.if-meets_some.branch [
            | then-meets_some w ↦ w.found-is
                ∙ sym (cond-true c.meets_some.result (Some (left - 1)) c.grants.found
                w.if-meets_some.true)
            | else-meets_some w ↦ w.found-is
                ∙ sym (cond-false c.meets_some.result (Some (left - 1)) c.grants.found
                w.if-meets_some.false)
          ]);
    }

-- The place is one of the list.
pub returns-clause-within : goal.returns-clause-within
returns-clause-within c =
    let grants = c.args.grants.now in
    let all : c.grants.left ≡ 0 = omega (arith, c.grants-test.false) in
    meeting_within (conflicts c.args.chip.now.links c.args.groups.now) grants c.grants.found
    (rw all at c.grants.invariant.found)
