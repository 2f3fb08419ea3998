-- `explain CHIP APP`: why channels were refused, by certificates; `explain CHIP APP CERT`: whether the
-- certificates of a text are complete. This project's own.
use Rattle.std.proofs.Common.{ℕ, ◌≡◌, ◌≤◌, ◌+◌, ◌++◌, List, [], ◌∷◌, All, Contains, Option, Some}
use Rattle.std.proofs.Common.{None, codes, decimal, length, map, slice_get, unwrap_or}
use Rattle.aeth_alloc.specs.{Prices.prices_of, Trials.earlier_count, Trials.trials_of}
use Rattle.aeth_answers.specs.{Files.judged_file, Job.Job, Job.done, Job.not_granted, Task.Judging}
use Rattle.aeth_answers.specs.{Task.Task, Task.ends}
use Rattle.aeth_app.specs.App.{AppData}
use Rattle.aeth_base.specs.declared.ids.LinkId.{LinkId}
use Rattle.aeth_explain.specs.Certificate.{cuts_of}
use Rattle.aeth_explain.specs.Cuts.{HasCandidate}
use Rattle.aeth_explain.specs.CutsText.{cuts_of_text, cuts_text, line_of}
use Rattle.aeth_explain.specs.SlotTables.{AreTables, SlotTablesData}
use Rattle.aeth_explain.specs.Verdict.{verdict_of}
use Rattle.aeth_explain.specs.declared.try_line.TryLine.{TryLine}
use Rattle.aeth_explain.specs.declared.verdict.CutVerdict.{CutVerdict}
use Rattle.aeth_explain.specs.declared.verdict.CutVerdict.TheVariants.{Complete, NotDead, Open}
use Rattle.aeth_files.specs.{Files.design_file, Plans.side_text}
use Rattle.aeth_group.specs.Members.{groups_of}
use Rattle.aeth_paths.specs.Trials.{IsTrialOf, TrialData}
use Rattle.aeth_plan.specs.declared.design.Design.{Design}
use Rattle.aeth_text.specs.{Order.line_after, Spelling.links_word}
use Rattle.aeth_explain_commands.specs.declared.explain.Refusals.{Refusals}

-- The tries of the channels for which the allocation refuses units.
abbrev pub refused_tries : Design → List TrialData
refused_tries design =
    trials_of design.chip design.app (groups_of design.app) (prices_of design.app.price)

-- The shortest cuts of each.
abbrev pub explanation : Design → List ℕ
explanation design = cuts_text design.app (map line_of (refused_tries design))
    (map (cuts_of design.chip (groups_of design.app)) (refused_tries design))

-- A chip file and an application file are read, and each refusal of the allocation is explained.
abbrev pub explain_task : List ℕ → List ℕ → Task
explain_task chip_name app_name =
    design_file chip_name app_name (λ design. ends (done (explanation design)))

-- `not dead LINE`: the line of a list that is no cut.
abbrev pub not_dead_text : ℕ → List ℕ
not_dead_text line = codes "not dead " ++ (decimal line ++ codes "\n")

-- `open CONN GROUP SIDE LINKS`: a path that a try may take and that begins with none of its lists.
abbrev pub open_text : AppData → TryLine → List LinkId → List ℕ
open_text app line path =
    codes "open " ++ (side_text app line.unit line.side ++ (codes " " ++ (links_word path ++ codes "\n")))

-- What is answered where the verdict on the lists of a try, whose `try` line has this number, isn't
-- that they are complete.
abbrev pub flaw_of : AppData → ℕ → TrialData → CutVerdict → Option Job
flaw_of app line trial Complete = None
flaw_of app line trial (NotDead cut) = Some (not_granted (not_dead_text (line_after line cut)))
flaw_of app line trial (Open path) = Some (not_granted (open_text app (line_of trial) path))

-- What tries and the lists of each come to, of which the first `try` line has this number: all are
-- complete, or the first that aren't say why.
abbrev pub verdicts_job : Design → ℕ → List TrialData → List (List (List LinkId)) → Job
verdicts_job design line [] blocks = done (codes "complete\n")
verdicts_job design line (trial ∷ trials) [] = done (codes "complete\n")
verdicts_job design line (trial ∷ trials) (own ∷ blocks) =
    unwrap_or (flaw_of design.app line trial
    (verdict_of design.chip (groups_of design.app) trial own))
    (verdicts_job design (line_after line (1 + length own)) trials blocks)

-- A text of certificates for these tries.
abbrev pub cert_file : Design → List ℕ → Judging (List (List (List LinkId)))
cert_file design name = judged_file (codes "cert")
    (cuts_of_text design.chip design.app (groups_of design.app) (map line_of (refused_tries design)))
    name

-- For a chip and an application a text of certificates is read and judged.
abbrev pub cert_task : Design → List ℕ → Task
cert_task design cert_name = cert_file design cert_name
    (λ blocks. ends (verdicts_job design 2 (refused_tries design) blocks))

-- A chip file and an application file are read, and then a text of certificates.
abbrev pub confirm_task : List ℕ → List ℕ → List ℕ → Task
confirm_task chip_name app_name cert_name =
    design_file chip_name app_name (λ design. cert_task design cert_name)

-- What tries are judged by on a design.
pub record AreRefusals (design : Design) (refusals : Refusals) : Type 0 where
  pub groups : refusals.groups ≡ groups_of design.app
  pub far : refusals.far ≡ design.chip.links
  pub tries : refusals.tries ≡ refused_tries design
  pub fit : All (IsTrialOf design.chip) refusals.tries
  pub none : (trial : TrialData) → Contains refusals.tries trial
      → HasCandidate design.chip (groups_of design.app) trial → ⊥

-- Slot tables that have grants of which each try from a place on has these before its unit's turn.
abbrev pub AreBehind : Design → List TrialData → ℕ → SlotTablesData → Type 0
AreBehind design tries i tables = (k : ℕ) (trial : TrialData) → i ≤ k
    → slice_get tries k ≡ Some trial → (tables.count ≤ earlier_count trial)
    × AreTables design.chip (groups_of design.app) trial.grants tables
