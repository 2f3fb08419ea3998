-- `chain CHIP APP PLAN USE CHAIN WORDS RECEIVERS CYCLES`: what a run of a chain of forwarding cores shows.
-- This project's own.
use Rattle.std.proofs.Common.{ℕ, List, [], ◌∷◌, Option, Some, None, codes}
use Rattle.aeth_app.specs.App.{AppData}
use Rattle.aeth_base.specs.{Limits.max_cycles, Name.name_of, declared.ids.UseId.UseId}
use Rattle.aeth_server.specs.declared.shape.ChannelShape.{ChannelShape}
use Rattle.aeth_group.specs.Members.{groups_of}
use Rattle.aeth_plan.specs.{Plan.PlanData, declared.design.Design.Design}
use Rattle.aeth_tables.specs.Tables.{tables_of}
use Rattle.aeth_trace.specs.declared.{receivers.PullRow.PullRow, words.WordRow.WordRow}
use Rattle.aeth_chain.specs.{Chain.bound_of, Chain.legs_of, ChainRun.chain_log}
use Rattle.aeth_chain.specs.{ChainText.chain_text, declared.item.ChainItem.ChainItem}
use Rattle.aeth_chain.specs.{ChainItems.items_of, ItemNames.item_names_of, Shapes.shapes_in}
use Rattle.aeth_chain.specs.{declared.names.ItemName.ItemName}
use Rattle.aeth_files.specs.{Files.design_file, Plans.accepted_file, Uses.named_use}
use Rattle.aeth_run_files.specs.TraceFiles.{receivers_file, words_file}
use Rattle.aeth_answers.specs.{Files.judgement, Job.Job, Job.done, Task.Judging, Task.Task}
use Rattle.aeth_answers.specs.{Task.ends, Words.◌>>=◌, Words.file_name_of, Words.number_within}
use Rattle.aeth_plan_commands.specs.declared.command.PlanCommand.{PlanCommand}
use Rattle.aeth_plan_commands.specs.declared.chain.ChainFiles.{ChainFiles}
use Rattle.aeth_plan_commands.specs.declared.command.PlanCommand.TheVariants as command

-- CHIP a chip file, APP an application file, PLAN a plan text, USE the name of a use case, CHAIN the items of
-- a chain, WORDS and RECEIVERS traces, CYCLES a number of cycles.
abbrev pub chain_command : List (List ℕ) → Option PlanCommand
chain_command (chip_word ∷ app_word ∷ plan_word ∷ use_word ∷ chain_word ∷ words_word
    ∷ receivers_word ∷ cycles_word ∷ []) = do
      chip ← file_name_of chip_word
      app ← file_name_of app_word
      plan ← file_name_of plan_word
      words ← file_name_of words_word
      receivers ← file_name_of receivers_word
      name ← name_of use_word
      items ← item_names_of chain_word
      cycles ← number_within 1 max_cycles cycles_word
      Some (command.Chain (record {
        chip = chip;
        app = app;
        plan = plan;
        words = words;
        receivers = receivers;
      }) name items cycles)
chain_command words = None

-- The text of a chain whose channels have these shapes.
abbrev pub shapes_job : AppData → UseId → List ChainItem → List ChannelShape → ℕ → List WordRow
    → List PullRow → Job
shapes_job app u items shapes cycles words pulls =
    let legs = legs_of items shapes in
    done (chain_text (chain_log legs words pulls cycles) (bound_of legs) app u.0)

-- The text of a chain by an accepted plan: with the shapes that the tables of its use case have.
abbrev pub chain_job : Design → PlanData → UseId → List ChainItem → ℕ → List WordRow → List PullRow
    → Job
chain_job design plan u items cycles words pulls =
    let tables = tables_of design.chip design.app (groups_of design.app) plan u in
    shapes_job design.app u items (shapes_in tables items) cycles words pulls

-- The items of names in a use case are judged.
abbrev pub judged_items : AppData → UseId → List ItemName → Judging (List ChainItem)
judged_items app u names next = judgement (codes "chain") (items_of app u.0 names) next

module _ (design : Design) (files : ChainFiles) where
  -- For words the rows of receivers are read, and the chain is run.
  abbrev pub pulled_task : PlanData → UseId → List ChainItem → ℕ → List WordRow → Task
  pulled_task plan u items cycles words = receivers_file design.app files.receivers
      (λ pulls. ends (chain_job design plan u items cycles words pulls))

  -- For an accepted plan words are read.
  abbrev pub words_task : PlanData → UseId → List ChainItem → ℕ → Task
  words_task plan u items cycles =
      words_file design.app files.words (λ words. pulled_task plan u items cycles words)

  -- For items in a use case a plan text is read, and the plan is accepted.
  abbrev pub planned_task : UseId → List ChainItem → ℕ → Task
  planned_task u items cycles = accepted_file design.chip design.app files.plan
      (λ plan. words_task plan u items cycles)

  -- For a use case the items are judged.
  abbrev pub items_task : UseId → List ItemName → ℕ → Task
  items_task u names cycles =
      judged_items design.app u names (λ items. planned_task u items cycles)

  -- For a chip and an application the use case is one of the application's.
  abbrev pub named_task : List ℕ → List ItemName → ℕ → Task
  named_task name names cycles =
      named_use design.app name (λ u. items_task u names cycles)

-- A chip file and an application file are read, then the use case is found and the items are judged, then a
-- plan is read, then words, and then rows of receivers.
abbrev pub chain_task : ChainFiles → List ℕ → List ItemName → ℕ → Task
chain_task files name names cycles =
    design_file files.chip files.app (λ design. named_task design files name names cycles)
