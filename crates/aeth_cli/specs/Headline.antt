-- The headline: what the program keeps of what it prints, from the bytes of the files on. Each field is one
-- sentence on the answer to a command (`Answers`, `specs/Asked.antt`).
use Rattle.std.proofs.Common.{ℕ, List}
use Rattle.aeth_cli.specs.Told.{IsLinksLog}
use Rattle.aeth_cli.specs.Asked.{Contents, Says, IfDone, IfNotGranted, IfNotRefused}
use Rattle.aeth_cli.specs.Printed.{AreRefusalsPrinted, IsPlanPrinted, IsRunPrinted}
use Rattle.aeth_command_laws.specs.{Chained.IsChained, Explained.IsConfirmed, Explained.IsExplained}
use Rattle.aeth_command_laws.specs.{Logged.IsAudited, Tabled.AreTablesTold}
use Rattle.aeth_cli.specs.Asked as command

pub record Headline (content : Contents) (Answers : Says) : Type 0 where
  -- `simulate` prints the log of accepted inputs, and all that holds of every run holds of theirs.
  pub simulates : (run : command.SimulatedRun)
      → Answers (command.simulate run) (IfDone (IsRunPrinted content run))
  -- So does `simulate-tables`, in a network whose routers look slot tables up.
  pub simulates_tables : (run : command.SimulatedRun)
      → Answers (command.simulate_tables run) (IfDone (IsRunPrinted content run))
  -- `allocate` prints a plan that is accepted for the chip and the application,
  pub plans : (chip app : List ℕ)
      → Answers (command.allocate chip app) (IfDone (IsPlanPrinted content chip app))
  -- or the units that it refuses: those of which a channel has no candidate in its turn, and no others.
  pub refuses : (chip app : List ℕ)
      → Answers (command.allocate chip app) (IfNotGranted (AreRefusalsPrinted content chip app))
  -- `explain` prints a complete certificate for each refusal,
  pub explains : (chip app : List ℕ)
      → Answers (command.explain chip app) (IfNotRefused (IsExplained content chip app))
  -- and says of a text of certificates that they are complete exactly where they are.
  pub confirms : (chip app cert : List ℕ)
      → Answers (command.confirm chip app cert) (IfNotRefused (IsConfirmed content chip app cert))
  -- What `tables` prints is what runs are bound by: route, slots, credits, rate and latency.
  pub tables_bind : (files : command.UseFiles)
      → Answers (command.tables files) (IfDone (AreTablesTold content files))
  -- On a chain a word that is due has landed on the last channel, while all receivers keep their delays.
  pub chains_land : (files : command.ChainFiles) (name : List ℕ) (items : List command.ItemName)
      (cycles : ℕ) → Answers (command.chain files name items cycles)
      (IfDone (IsChained content files name items cycles))
  -- The log that `links` prints is clean: each flit is on a link that is reserved for its channel.
  pub links_are_clean : (run : command.LoggedRun)
      → Answers (command.links run) (IfDone (IsLinksLog content run))
  -- `audit` says that a log is clean exactly where it is.
  pub audits : (files : command.AuditFiles) (cycles : ℕ)
      → Answers (command.audit files cycles) (IsAudited content files cycles)
