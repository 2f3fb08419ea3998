-- The verdict on a plan: the first rule that fails, with the lines where it does.
--
--   broken_line, broken_pair, missing      what is answered where a rule fails
--   shared_seat .. conflict      the rules, one by one
--   verdict_of      the verdict
-- This project's own.
use Rattle.std.proofs.Common.{ℕ, not, Option, option_map, slice_get, unwrap_or}
use Rattle.std.specs.Option.{option_or}
use Rattle.aeth_base.specs.declared.ids.{Side.Side, Unit.Unit as GroupUnit}
use Rattle.aeth_chip.specs.Chip.{ChipData}
use Rattle.aeth_app.specs.App.{AppData}
use Rattle.aeth_group.specs.Members.{GroupsData, is_member, units_of}
use Rattle.aeth_plan.specs.{Layout.first_grant_line, Layout.first_seat_line, Plan.PlanData}
use Rattle.aeth_check.specs.declared.verdict.Verdict.{Verdict}
use Rattle.aeth_check.specs.declared.verdict.Verdict.TheVariants.{Accepted, Missing, Broken}
use Rattle.aeth_check.specs.Channels.{first_lacking, fits_path, fits_slots}
use Rattle.aeth_check.specs.Firsts.{first_line, first_pair}
use Rattle.aeth_check.specs.Meetings.{conflicts}
use Rattle.aeth_check.specs.Seats.{first_misseated, is_one_seat}

-- A rule that fails on a line.
abbrev pub broken_line : ℕ → Option ℕ → Option Verdict
broken_line rule line = option_map (λ l. Broken rule l 0) line

-- A rule that fails on a pair of lines.
abbrev pub broken_pair : ℕ → Option (ℕ × ℕ) → Option Verdict
broken_pair rule lines = option_map (λ p. Broken rule p.0 p.1) lines

-- A side of a unit without a grant.
abbrev pub missing : Option (GroupUnit × Side) → Option Verdict
missing lacking = option_map (λ p. Missing p.0 p.1) lacking

-- Rule 1: two cores have one seat.
unfoldable pub shared_seat : PlanData → Option Verdict
shared_seat plan = broken_pair 1 (first_pair is_one_seat first_seat_line plan.seats)

-- Rule 2: a core that is fixed to an interface isn't seated there.
unfoldable pub misseated : AppData → PlanData → Option Verdict
misseated app plan = broken_line 2 (first_misseated plan.seats 0 app.cores)

-- Rule 3: a grant's connection is in no use case of its group.
unfoldable pub stranger : GroupsData → PlanData → Option Verdict
stranger groups plan = broken_line 3
    (first_line (λ grant. not (is_member groups grant.unit.group.0 grant.unit.conn.0))
    (first_grant_line plan.seats) plan.grants)

-- Rule 4: a unit lacks a side.
unfoldable pub lacking : GroupsData → PlanData → Option Verdict
lacking groups plan = missing (first_lacking plan.grants (units_of groups))

-- Rule 5: a path isn't admissible from the sender's interface to the receiver's, or one of the two
-- isn't seated.
unfoldable pub invalid_path : ChipData → AppData → PlanData → Option Verdict
invalid_path chip app plan = broken_line 5
    (first_line (λ grant. not (fits_path chip app plan.seats grant
    (slice_get app.connections grant.unit.conn.0))) (first_grant_line plan.seats) plan.grants)

-- Rule 6: slots aren't suitable.
unfoldable pub unfit_slots : ChipData → AppData → PlanData → Option Verdict
unfit_slots chip app plan = broken_line 6
    (first_line (λ grant. not (fits_slots chip app grant
    (slice_get app.connections grant.unit.conn.0))) (first_grant_line plan.seats) plan.grants)

-- Rule 7: two grants conflict.
unfoldable pub conflict : ChipData → GroupsData → PlanData → Option Verdict
conflict chip groups plan = broken_pair 7
    (first_pair (conflicts chip.links groups) (first_grant_line plan.seats) plan.grants)

-- The first rule that fails.
abbrev pub first_broken_rule : ChipData → AppData → GroupsData → PlanData → Option Verdict
first_broken_rule chip app groups plan =
    option_or (shared_seat plan)
    (option_or (misseated app plan)
    (option_or (stranger groups plan)
    (option_or (lacking groups plan)
    (option_or (invalid_path chip app plan)
    (option_or (unfit_slots chip app plan)
    (conflict chip groups plan))))))

-- The verdict: the plan is accepted where no rule fails.
abbrev pub verdict_of : ChipData → AppData → GroupsData → PlanData → Verdict
verdict_of chip app groups plan = unwrap_or (first_broken_rule chip app groups plan) Accepted
