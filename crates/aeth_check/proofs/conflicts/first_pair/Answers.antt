use Rattle.std.proofs.Common.{◌∙◌, sym, arith, subst}
use Rattle.aeth_check.specs.{Calls.IsPlaced, Meetings.conflicts}
use Rattle.aeth_check.proofs.MeetingLaws.{no_pair, none_found, pair_found}
use Rattle.aeth_check.proofs.conflicts.first_pair.Goals as goal

-- No grant conflicts with one behind it.
pub returns-in_default : goal.returns-in_default
returns-in_default c =
    sym (no_pair (conflicts c.args.chip.now.links c.args.groups.now) 0 c.args.first
    c.args.grants.now (sym c.in_ok-place.ensures.found ∙ c.in_default.is))

-- It is one of the grants.
pub first_with-requires-clause-one : goal.first_with-requires-clause-one
first_with-requires-clause-one c =
    subst (IsPlaced c.args.chip.now) (sym c.index-grants-place.is)
    (c.requires c.in-Some.place c.index-grants-place.result
    (rw c.in-Some.is at c.in_ok-place.ensures.within))

-- The pair is the first.
pub returns-in-Some-2 : goal.returns-in-Some-2
returns-in-Some-2 c =
    pair_found (conflicts c.args.chip.now.links c.args.groups.now) c.args.first c.args.grants.now
    c.in-Some.place c.index-grants-place.result _ _ c.in_ok-other.field-0 c.in-Some-2.other
    (record {
      low = omega (arith, c.ranges.first.fits);
      is = sym c.in_ok-place.ensures.found ∙ c.in-Some.is;
      at = c.index-grants-place.is;
      line_is = c.line_after-line.ensures;
      next_is = c.line_after-next.ensures;
      behind_is = c.in_ok-other.ensures;
    }) c.in-Some-2.is

-- There is one behind.
pub returns-in-None : goal.returns-in-None
returns-in-None c =
    absurd (none_found (conflicts c.args.chip.now.links c.args.groups.now) c.args.first
    c.args.grants.now c.in-Some.place c.index-grants-place.result _ _ c.in_ok-other.field-0
    (record {
      low = omega (arith, c.ranges.first.fits);
      is = sym c.in_ok-place.ensures.found ∙ c.in-Some.is;
      at = c.index-grants-place.is;
      line_is = c.line_after-line.ensures;
      next_is = c.line_after-next.ensures;
      behind_is = c.in_ok-other.ensures;
    }) c.in-None.is)
