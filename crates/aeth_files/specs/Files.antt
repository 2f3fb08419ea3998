-- Files of designs and plans that a command reads and judges, one after the other.
--
--   chip_file, app_file   a chip file; an application file
--   design_file           a chip file, and an application file for the chip
--   plan_file             a plan text
-- This project's own.
use Rattle.std.proofs.Common.{ℕ, List, codes}
use Rattle.aeth_app.specs.{App.AppData, AppFile.app_of}
use Rattle.aeth_chip.specs.{Chip.ChipData, ChipFile.chip_of}
use Rattle.aeth_group.specs.Members.{groups_of}
use Rattle.aeth_plan.specs.{Plan.PlanData, PlanText.plan_of, declared.design.Design.Design}
use Rattle.aeth_answers.specs.{Files.judged_file, Task.Judging}

-- A chip file.
abbrev pub chip_file : List ℕ → Judging ChipData
chip_file name next = judged_file (codes "chip") chip_of name next

-- An application file for a chip.
abbrev pub app_file : ChipData → List ℕ → Judging AppData
app_file chip name next = judged_file (codes "app") (app_of chip) name next

-- A chip file, and then an application file for the chip.
abbrev pub design_file : List ℕ → List ℕ → Judging Design
design_file chip_name app_name next =
    chip_file chip_name (λ chip.
    app_file chip app_name (λ app. next (record { chip = chip; app = app })))

-- A plan text for a chip and an application.
abbrev pub plan_file : ChipData → AppData → List ℕ → Judging PlanData
plan_file chip app name next =
    judged_file (codes "plan") (plan_of chip app (groups_of app)) name next
