-- `app CHIP APP`: the summary of an application, and what its connections need.
-- This project's own.
use Rattle.std.proofs.Common.{ℕ, ◌++◌, List, [], ◌∷◌, length, flat_map, Option, Some, None, codes}
use Rattle.std.proofs.Common.{decimal}
use Rattle.aeth_app.specs.{App.AppData, Rates.need_of, declared.connection.Connection.Connection}
use Rattle.aeth_base.specs.declared.ids.Side.TheVariants.{Fwd, Back}
use Rattle.aeth_group.specs.Members.{groups_of, units_of}
use Rattle.aeth_design_commands.specs.declared.command.DesignCommand.{DesignCommand}
use Rattle.aeth_files.specs.Files.{design_file}
use Rattle.aeth_answers.specs.{Job.done, Task.Task, Task.ends, Words.◌>>=◌, Words.file_name_of}
use Rattle.aeth_design_commands.specs.declared.command.DesignCommand.TheVariants as command

-- CHIP a chip file, APP an application file.
abbrev pub app_command : List (List ℕ) → Option DesignCommand
app_command (chip_word ∷ app_word ∷ []) = do
  chip ← file_name_of chip_word
  app ← file_name_of app_word
  Some (command.App chip app)
app_command words = None

-- The numbers of cores, connections, use cases, groups and units.
abbrev pub summary_text : AppData → List ℕ
summary_text app =
    codes "app cores " ++ decimal (length app.cores) ++ codes " connections "
    ++ decimal (length app.connections) ++ codes " uses " ++ decimal (length app.uses)
    ++ codes " groups " ++ decimal (groups_of app).count ++ codes " units "
    ++ decimal (length (units_of (groups_of app))) ++ codes "\n"

-- `need CONN FWD BACK`: what a connection needs in slots of a table, forward and back.
abbrev pub need_text : ℕ → Connection → List ℕ
need_text slots connection =
    codes "need " ++ connection.name ++ codes " " ++ decimal (need_of slots connection Fwd)
    ++ codes " " ++ decimal (need_of slots connection Back) ++ codes "\n"

-- The summary, and then the needs of each connection in file order.
abbrev pub app_text : AppData → List ℕ
app_text app = summary_text app ++ flat_map (need_text app.slots) app.connections

-- A chip file and an application file are read, and the application is summed up.
abbrev pub app_task : List ℕ → List ℕ → Task
app_task chip_name app_name =
    design_file chip_name app_name (λ design. ends (done (app_text design.app)))
