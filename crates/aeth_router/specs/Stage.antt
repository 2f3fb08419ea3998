-- A stage: one wire behind another on a link with a delay.
-- Pipeline stages of links: this project's own.
use Rattle.std.proofs.Common.{ℕ, ◌==◌, Bool, List, Option, None}
use Rattle.aeth_base.specs.declared.ids.LinkId.{LinkId}
use Rattle.aeth_clocked.specs.{Wires.flit_on, declared.flit.Flit.Flit}

-- A stage: the wire on which it receives, the one behind it, on which it sends, and the flit or
-- none that it holds.
pub record StageState : Type 0 where
  pub input : LinkId
  pub output : LinkId
  pub held : Option Flit

-- The stage between these wires, which holds no flit.
abbrev pub new_stage : LinkId → LinkId → StageState
new_stage input output = record { input = input; output = output; held = None }

-- A stage sends on its output.
abbrev pub stage_outputs : StageState → ℕ → Bool
stage_outputs stage wire = stage.output.0 == wire

-- It receives on its input.
abbrev pub stage_inputs : StageState → ℕ → Bool
stage_inputs stage wire = stage.input.0 == wire

-- In every cycle it emits what it holds.
abbrev pub stage_emit : StageState → ℕ → ℕ → Option Flit
stage_emit stage cycle wire = stage.held

-- Behind that it holds no flit.
abbrev pub stage_after : StageState → ℕ → StageState
stage_after stage cycle = record stage { held = None }

-- It holds what these wires have on its input.
abbrev pub stage_absorb : StageState → List (Option Flit) → StageState
stage_absorb stage wires = record stage { held = flit_on wires stage.input.0 }
