-- The command on refusals, and what it asks for.
-- This project's own.
use Rattle.std.proofs.Common.{ℕ, List, [], ◌∷◌, Option, Some, None, codes, if◌then◌else◌}
use Rattle.std.specs.Str.{bytes_eq}
use Rattle.aeth_answers.specs.{Task.Task, Words.◌>>=◌, Words.file_name_of}
use Rattle.aeth_explain_commands.specs.Explain.{confirm_task, explain_task}
use Rattle.aeth_explain_commands.specs.declared.command.ExplainCommand.{ExplainCommand}
use Rattle.aeth_explain_commands.specs.declared.command.ExplainCommand.TheVariants as command

-- CHIP a chip file, APP an application file, CERT a text of certificates.
abbrev pub explain_words : List (List ℕ) → Option ExplainCommand
explain_words (chip_word ∷ app_word ∷ []) = do
  chip ← file_name_of chip_word
  app ← file_name_of app_word
  Some (command.Explain chip app)
explain_words (chip_word ∷ app_word ∷ cert_word ∷ []) = do
  chip ← file_name_of chip_word
  app ← file_name_of app_word
  cert ← file_name_of cert_word
  Some (command.Confirm chip app cert)
explain_words words = None

-- The command on refusals that a name and the words behind it are, if they are one.
abbrev pub explain_command : List ℕ → List (List ℕ) → Option ExplainCommand
explain_command name words =
    if bytes_eq name (codes "explain") then explain_words words else None

-- What a command does.
abbrev pub refusals_task : ExplainCommand → Task
refusals_task (command.Explain chip app) = explain_task chip app
refusals_task (command.Confirm chip app cert) = confirm_task chip app cert
