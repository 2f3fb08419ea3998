-- What the schedule of inputs is made from.
--
--   AreSpansFor      spans that tell how long the switches of inputs take
--   IsTaskOf      the task of inputs
-- This project's own.
use Rattle.std.proofs.Common.{◌≡◌, ◌≤◌, ◌<◌, ℕ, length}
use Rattle.aeth_base.specs.Limits.{max_path_delay}
use Rattle.aeth_group.specs.Members.{groups_of}
use Rattle.aeth_trace.specs.Spans.{SpanData, span_of}
use Rattle.aeth_accepted.specs.Inputs.{Inputs, run_of}
use Rattle.aeth_scheduling.specs.{Entered.entered_lines, declared.task.Task.Task}

-- Spans between the use cases of inputs, with short lags, which are those of the plan where a switch
-- follows the first row.
pub record AreSpansFor (inputs : Inputs) (spans : SpanData) : Type 0 where
  pub uses : spans.uses ≡ length (groups_of inputs.app).uses
  pub lags : (u v : ℕ) → u < length (groups_of inputs.app).uses
      → v < length (groups_of inputs.app).uses → (span_of spans u v).0 ≤ max_path_delay
  pub planned : 2 ≤ length inputs.switches → spans ≡ (run_of inputs).spans

-- The task of inputs: the groups of their application, spans for them and the channels of the use cases
-- that they enter, their words, and their cycles.
pub record IsTaskOf (inputs : Inputs) (task : Task) : Type 0 where
  pub groups : task.groups.now ≡ groups_of inputs.app
  pub spans : AreSpansFor inputs task.spans.now
  pub lines : task.all.now ≡ entered_lines inputs
  pub words : task.words.now ≡ inputs.words
  pub cycles : task.cycles ≡ inputs.cycles
