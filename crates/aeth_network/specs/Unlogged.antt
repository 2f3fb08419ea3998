-- Networks before their first cycle, whose log isn't made yet.
--
--   no_log      a log of nothing
--   logged_by, logged_with      a network with its log, by what that is made of, and by inputs
--   HasInputsWith      a network is that of accepted inputs with these words
-- This project's own.
use Rattle.std.proofs.Common.{◌≡◌, ℕ, List, []}
use Rattle.aeth_chip.specs.Chip.{ChipData}
use Rattle.aeth_app.specs.App.{AppData}
use Rattle.aeth_trace.specs.declared.words.WordRow.{WordRow}
use Rattle.aeth_report.specs.Log.{LogData}
use Rattle.aeth_accepted.specs.Inputs.{Inputs}
use Rattle.aeth_running.specs.Network.{NetworkState}
use Rattle.aeth_network.specs.{Records.log_from, Runs.IsNetworkOf}

-- A log of nothing.
abbrev pub no_log : LogData
no_log = record { cycles = 0; channels = []; flits = [] }

-- A network with its log, of which nothing has landed yet: by a chip, an application, words and the number of
-- cycles of a run.
abbrev pub logged_by : ChipData → AppData → List WordRow → ℕ → NetworkState → NetworkState
logged_by chip app words cycles all = record all {
  log = log_from chip app words cycles all.stimuli.schedule.session_starts;
}

-- And by inputs.
abbrev pub logged_with : Inputs → NetworkState → NetworkState
logged_with inputs all = logged_by inputs.chip inputs.app inputs.words inputs.cycles all

-- A network is that of accepted inputs, whose words are these.
pub record HasInputsWith (words : List WordRow) (all : NetworkState) : Type 0 where
  pub inputs : Inputs
  pub of : IsNetworkOf inputs all
  pub words_are : inputs.words ≡ words
