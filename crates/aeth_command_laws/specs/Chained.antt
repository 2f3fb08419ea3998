-- What `chain` prints, and what it meets.
--
--   ChainFor, IsChainTold      a chain with what it is run with, which their files told
--   IsChained      a job is the log of a chain, whose words have landed when they are due
-- This project's own.
use Rattle.std.proofs.Common.{ℕ, ◌≡◌, List, Ok, Option, Some, slice_get}
use Rattle.aeth_answers.specs.Job.{Job}
use Rattle.aeth_base.specs.declared.ids.UseId.{UseId}
use Rattle.aeth_chain.specs.{Chain.Leg, Chain.legs_of, ChainBounds.AreDueWordsLanded}
use Rattle.aeth_chain.specs.{declared.item.ChainItem.ChainItem, ChainItems.items_of}
use Rattle.aeth_chain.specs.{Shapes.shapes_in, declared.names.ItemName.ItemName}
use Rattle.aeth_files.specs.Told.{IsTold}
use Rattle.aeth_group.specs.Members.{groups_of}
use Rattle.aeth_plan.specs.{Plan.PlanData, declared.design.Design.Design}
use Rattle.aeth_plan_commands.specs.{Chain.chain_job, declared.chain.ChainFiles.ChainFiles}
use Rattle.aeth_tables.specs.Tables.{tables_of}
use Rattle.aeth_trace.specs.{Receivers.receivers_of, Switches.use_names, Words.words_of}
use Rattle.aeth_trace.specs.{declared.receivers.PullRow.PullRow, declared.words.WordRow.WordRow}
use Rattle.aeth_command_laws.specs.Told.{IsPlanTold}

-- A chain in a use case of an accepted plan, with words and rows of receivers.
pub record ChainFor : Type 0 where
  pub design : Design
  pub plan : PlanData
  pub use_case : UseId
  pub items : List ChainItem
  pub words : List WordRow
  pub pulls : List PullRow

-- Its channels, with the shapes that the tables of the use case have.
abbrev pub legs_for : ChainFor → List Leg
legs_for chain = legs_of chain.items (shapes_in (tables_of chain.design.chip chain.design.app
    (groups_of chain.design.app) chain.plan chain.use_case) chain.items)

-- The files and the words of the command told it.
pub record IsChainTold (content : List ℕ → Option (List ℕ)) (files : ChainFiles) (name : List ℕ)
    (names : List ItemName) (chain : ChainFor) : Type 0 where
  pub plan : IsPlanTold content files.chip files.app files.plan chain.design chain.plan
  pub named : slice_get (use_names chain.design.app) chain.use_case.0 ≡ Some name
  pub items : items_of chain.design.app chain.use_case.0 names ≡ Ok chain.items
  pub words : IsTold content files.words (words_of chain.design.app) chain.words
  pub receivers : IsTold content files.receivers (receivers_of chain.design.app) chain.pulls

-- The job is the log of a chain that was told, and each word that is due by a cycle has landed on the last
-- channel by then, while the receivers of all channels keep their delays.
pub record IsChained (content : List ℕ → Option (List ℕ)) (files : ChainFiles) (name : List ℕ)
    (names : List ItemName) (cycles : ℕ) (asked : Job) : Type 0 where
  pub chain : ChainFor
  pub told : IsChainTold content files name names chain
  pub job_is : asked ≡ chain_job chain.design chain.plan chain.use_case chain.items cycles
      chain.words chain.pulls
  pub lands : AreDueWordsLanded (legs_for chain) chain.words chain.pulls cycles
