-- Laws of the commands that words are.
use Rattle.std.proofs.Common.{◌≡◌, ◌≤◌, ℕ, Bool, true, false, List, [], ◌∷◌, Option, Some, None}
use Rattle.std.proofs.Common.{Result, if◌then◌else◌, refl, subst, sym, codes}
use Rattle.std.specs.{Prelude.⊤, Option.option_and_then, Option.option_map, Option.option_or}
use Rattle.std.specs.{Str.bytes_eq}
use Rattle.aeth_answers.specs.{Job.Job, Places.Files, Stop.Answers, Stop.IfAnswer}
use Rattle.aeth_answers.specs.{Words.file_name_of, Words.number_within, declared.answer.Stop.Stop}
use Rattle.aeth_answers.proofs.Reading.{number_within-bounds}
use Rattle.aeth_base.specs.{Limits.max_cycles, Name.name_of}
use Rattle.aeth_chain.specs.ItemNames.{AreItemNames, item_names_of}
use Rattle.aeth_chain.specs.declared.names.ItemName.{ItemName}
use Rattle.aeth_design_commands.specs.Commands.{design_command}
use Rattle.aeth_design_commands.specs.declared.command.DesignCommand.{DesignCommand}
use Rattle.aeth_explain_commands.specs.Commands.{explain_command}
use Rattle.aeth_explain_commands.specs.declared.command.ExplainCommand.{ExplainCommand}
use Rattle.aeth_plan_commands.specs.{Audit.audit_command, Chain.chain_command}
use Rattle.aeth_plan_commands.specs.{Commands.plan_command, PlannedUses.use_files_of}
use Rattle.aeth_plan_commands.specs.{declared.chain.ChainFiles.ChainFiles}
use Rattle.aeth_plan_commands.specs.{declared.command.PlanCommand.PlanCommand}
use Rattle.aeth_run_commands.specs.{Commands.run_command, Outcomes.Outcomes}
use Rattle.aeth_run_commands.specs.{declared.command.RunCommand.RunCommand}
use Rattle.aeth_run_commands.specs.{declared.simulate.SimulatedRun.SimulatedRun}
use Rattle.aeth_run_commands.specs.{TracedDesigns.files_named}
use Rattle.aeth_run_commands.proofs.RangeLemmas.{IsShort, command_short}
use Rattle.aeth_cli.specs.Commands.{AnswersWords, IsAnswerTo, command_of, task_of}
use Rattle.aeth_cli.specs.Commands.Links.{links_command, links_words}
use Rattle.aeth_cli.specs.Limits.{max_logged_cycles}
use Rattle.aeth_cli.specs.declared.commands.{Command.Command, links.LoggedRun.LoggedRun}
use Rattle.aeth_plan_commands.specs.declared.command.PlanCommand.TheVariants as plan
use Rattle.aeth_run_commands.specs.declared.command.RunCommand.TheVariants as run
use Rattle.aeth_cli.specs.declared.commands.Command.TheVariants as command

-- ---- ranges

-- What holds of none, and of what comes of each value that there can be, holds of what comes of a value.
then_holds : {A X : Type 0} (Holds : Option X → Type 0) → Holds None → (value : Option A)
    (next : A → Option X) → ((one : A) → value ≡ Some one → Holds (next one))
    → Holds (option_and_then next value)
then_holds Holds none None next each = none
then_holds Holds none (Some one) next each = each one refl

-- What holds of both, holds of the one that a test says.
if_holds : {X : Type 0} (Holds : X → Type 0) (test : Bool) (one other : X) → Holds one → Holds other
    → Holds (if test then one else other)
if_holds Holds true one other first second = first
if_holds Holds false one other first second = second

-- The cycles of `links` are within their limit.
abbrev IsShortLog : Option LoggedRun → Type 0
IsShortLog None = ⊤
IsShortLog (Some one) = one.cycles ≤ max_logged_cycles

short_log : (words : List (List ℕ)) → IsShortLog (links_words words)
short_log (chip ∷ app ∷ plan ∷ words ∷ receivers ∷ switches ∷ cycles ∷ []) =
    then_holds IsShortLog tt (files_named chip app plan words receivers switches) _ (λ _ _.
    then_holds IsShortLog tt (number_within 1 max_logged_cycles cycles) _ (λ count told.
    (number_within-bounds 1 max_logged_cycles cycles count told).1))
short_log words = tt

-- The items of `chain` are those that a word tells.
abbrev HasItemNames : Option PlanCommand → Type 0
HasItemNames (Some (plan.Chain files name items cycles)) = AreItemNames items
HasItemNames other = ⊤

-- What words tell items.
abbrev pub AreNamed : Type 0
AreNamed = (word : List ℕ) (names : List ItemName) → item_names_of word ≡ Some names
    → AreItemNames names

chain_names : AreNamed → (words : List (List ℕ)) → HasItemNames (chain_command words)
chain_names named (chip ∷ app ∷ plan ∷ use_word ∷ chain ∷ words ∷ receivers ∷ cycles ∷ []) =
    then_holds HasItemNames tt (file_name_of chip) _ (λ _ _.
    then_holds HasItemNames tt (file_name_of app) _ (λ _ _.
    then_holds HasItemNames tt (file_name_of plan) _ (λ _ _.
    then_holds HasItemNames tt (file_name_of words) _ (λ _ _.
    then_holds HasItemNames tt (file_name_of receivers) _ (λ _ _.
    then_holds HasItemNames tt (name_of use_word) _ (λ _ _.
    then_holds HasItemNames tt (item_names_of chain) _ (λ items told.
    then_holds HasItemNames tt (number_within 1 max_cycles cycles) _ (λ _ _.
    named chain items told))))))))
chain_names named words = tt

audit_names : (words : List (List ℕ)) → HasItemNames (audit_command words)
audit_names (chip ∷ app ∷ plan ∷ switches ∷ log ∷ cycles ∷ []) =
    then_holds HasItemNames tt (file_name_of chip) _ (λ _ _.
    then_holds HasItemNames tt (file_name_of app) _ (λ _ _.
    then_holds HasItemNames tt (file_name_of plan) _ (λ _ _.
    then_holds HasItemNames tt (file_name_of switches) _ (λ _ _.
    then_holds HasItemNames tt (file_name_of log) _ (λ _ _.
    then_holds HasItemNames tt (number_within 1 max_cycles cycles) _ (λ _ _. tt))))))
audit_names words = tt

plan_names : AreNamed → (name : List ℕ) (words : List (List ℕ))
    → HasItemNames (plan_command name words)
plan_names named name words =
    if_holds HasItemNames (bytes_eq name (codes "tables")) _ _
    (then_holds HasItemNames tt (use_files_of words) _ (λ _ _. tt)) (
    if_holds HasItemNames (bytes_eq name (codes "route-tables")) _ _
    (then_holds HasItemNames tt (use_files_of words) _ (λ _ _. tt)) (
    if_holds HasItemNames (bytes_eq name (codes "audit")) _ _ (audit_names words) (
    if_holds HasItemNames (bytes_eq name (codes "chain")) _ _ (chain_names named words) (tt {0}))))

-- The numbers of a run and of a log are within their limits, and the items of a chain are told by a word.
abbrev IsInRange : Option Command → Type 0
IsInRange (Some (command.Run one)) = IsShort (Some one)
IsInRange (Some (command.Links one)) = IsShortLog (Some one)
IsInRange (Some (command.Plan one)) = HasItemNames (Some one)
IsInRange other = ⊤

-- One of two commands is in range, where both are.
range_or : (one other : Option Command) → IsInRange one → IsInRange other
    → IsInRange (option_or one other)
range_or None other first second = second
range_or (Some one) other first second = first

-- A command is in range as what it is made of is.
range_run : (said : Option RunCommand) → IsShort said → IsInRange (option_map command.Run said)
range_run None short = tt
range_run (Some one) short = short

range_links : (said : Option LoggedRun) → IsShortLog said
    → IsInRange (option_map command.Links said)
range_links None short = tt
range_links (Some one) short = short

range_plan : (said : Option PlanCommand) → HasItemNames said
    → IsInRange (option_map command.Plan said)
range_plan None named = tt
range_plan (Some one) named = named

range_design : (said : Option DesignCommand) → IsInRange (option_map command.Design said)
range_design None = tt
range_design (Some one) = tt

range_explain : (said : Option ExplainCommand) → IsInRange (option_map command.Explain said)
range_explain None = tt
range_explain (Some one) = tt

-- Each command is in range.
all_in_range : AreNamed → (words : List (List ℕ)) → IsInRange (command_of words)
all_in_range named [] = tt
all_in_range named (name ∷ words) =
    range_or _ _ (range_design (design_command name words)) (
    range_or _ _ (range_explain (explain_command name words)) (
    range_or _ _ (range_plan (plan_command name words) (plan_names named name words)) (
    range_or _ _ (range_run (run_command name words) (command_short name words))
    (range_links (links_command name words)
    (if_holds IsShortLog (bytes_eq name (codes "links")) _ _ (short_log words) (tt {0}))))))

-- So the words of a simulation name a number of cycles within the limit.
pub simulate-cycles : AreNamed → (words : List (List ℕ)) (one : SimulatedRun)
    → command_of words ≡ Some (command.Run (run.Simulate one)) → one.cycles ≤ max_cycles
simulate-cycles named words one is = subst IsInRange is (all_in_range named words)

pub tables-cycles : AreNamed → (words : List (List ℕ)) (one : SimulatedRun)
    → command_of words ≡ Some (command.Run (run.SimulateTables one)) → one.cycles ≤ max_cycles
tables-cycles named words one is = subst IsInRange is (all_in_range named words)

-- And those of a log of links.
pub links-cycles : AreNamed → (words : List (List ℕ)) (one : LoggedRun)
    → command_of words ≡ Some (command.Links one) → one.cycles ≤ max_logged_cycles
links-cycles named words one is = subst IsInRange is (all_in_range named words)

-- The items of a chain are those of a word.
pub chain-items : AreNamed → (words : List (List ℕ)) (files : ChainFiles) (name : List ℕ)
    (items : List ItemName) (cycles : ℕ)
    → command_of words ≡ Some (command.Plan (plan.Chain files name items cycles))
    → AreItemNames items
chain-items named words files name items cycles is = subst IsInRange is (all_in_range named words)

-- ---- answers

-- What answers the task of a command answers words that are the command.
pub AnswersWords-command : (outcomes : Outcomes) (old new : Files) (said : Option Command)
    (one : Command) (came : Result Job Stop) → said ≡ Some one
    → Answers old new (task_of outcomes one) came → AnswersWords outcomes old new said came
AnswersWords-command outcomes old new said one came is answers = record {
  after = answers.after;
  faultless = answers.faultless;
  answers = subst (λ (s : Option Command). IfAnswer came (IsAnswerTo outcomes old new s)) (sym is)
      answers.answers;
}
