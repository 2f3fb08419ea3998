-- Plans that a command judges once it has read them.
-- This project's own.
use Rattle.std.proofs.Common.{ℕ, ◌++◌, List, [], codes, decimal, slice_get}
use Rattle.std.specs.Option.{option_map_or}
use Rattle.aeth_app.specs.App.{AppData}
use Rattle.aeth_base.specs.declared.ids.{ConnId.ConnId, Side.Side, Unit.Unit as GroupUnit}
use Rattle.aeth_check.specs.Verdict.{verdict_of}
use Rattle.aeth_check.specs.declared.verdict.Verdict.{Verdict}
use Rattle.aeth_check.specs.declared.verdict.Verdict.TheVariants.{Accepted, Missing, Broken}
use Rattle.aeth_chip.specs.Chip.{ChipData}
use Rattle.aeth_group.specs.Members.{groups_of}
use Rattle.aeth_plan.specs.Plan.{PlanData}
use Rattle.aeth_text.specs.Spelling.{side_word}
use Rattle.aeth_answers.specs.{Job.not_granted, Task.Judging, Task.ends}
use Rattle.aeth_files.specs.Files.{plan_file}

-- The name of a connection; no bytes where there is none of that number.
abbrev pub connection_name : AppData → ConnId → List ℕ
connection_name app conn =
    option_map_or (λ connection. connection.name) (slice_get app.connections conn.0) []

-- `CONN GROUP SIDE`: a side of a unit.
abbrev pub side_text : AppData → GroupUnit → Side → List ℕ
side_text app unit side =
    connection_name app unit.conn ++ codes " " ++ decimal unit.group.0 ++ codes " "
    ++ side_word side

-- `missing CONN GROUP SIDE`: a unit lacks a grant for a side.
abbrev pub missing_text : AppData → GroupUnit → Side → List ℕ
missing_text app unit side = codes "missing " ++ side_text app unit side ++ codes "\n"

-- `broken RULE LINE OTHER`: a plan breaks a rule in its lines.
abbrev pub broken_text : ℕ → ℕ → ℕ → List ℕ
broken_text rule line other =
    codes "broken " ++ decimal rule ++ codes " " ++ decimal line ++ codes " " ++ decimal other
    ++ codes "\n"

-- A task goes on where a plan is accepted, and else ends by the first rule that fails.
abbrev pub on_verdict : AppData → Verdict → Judging (Unit {0})
on_verdict app Accepted next = next tt
on_verdict app (Missing unit side) next = ends (not_granted (missing_text app unit side))
on_verdict app (Broken rule line other) next = ends (not_granted (broken_text rule line other))

-- A plan is judged.
abbrev pub accepted_plan : ChipData → AppData → PlanData → Judging (Unit {0})
accepted_plan chip app plan next =
    on_verdict app (verdict_of chip app (groups_of app) plan) next

-- A plan text for a chip and an application is read, and its plan is accepted.
abbrev pub accepted_file : ChipData → AppData → List ℕ → Judging PlanData
accepted_file chip app name next =
    plan_file chip app name (λ plan. accepted_plan chip app plan (λ _. next plan))
