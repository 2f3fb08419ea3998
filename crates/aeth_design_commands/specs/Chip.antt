-- `chip CHIP`: the summary of a chip.
-- This project's own.
use Rattle.std.proofs.Common.{ℕ, ◌++◌, List, [], ◌∷◌, length, Option, Some, None, codes, decimal}
use Rattle.aeth_chip.specs.{Chip.ChipData, Summary.far_of, Summary.unreached_of}
use Rattle.aeth_design_commands.specs.declared.command.DesignCommand.{DesignCommand}
use Rattle.aeth_files.specs.Files.{chip_file}
use Rattle.aeth_answers.specs.{Job.done, Task.Task, Task.ends, Words.◌>>=◌, Words.file_name_of}
use Rattle.aeth_design_commands.specs.declared.command.DesignCommand.TheVariants as command

-- CHIP a chip file.
abbrev pub chip_command : List (List ℕ) → Option DesignCommand
chip_command (chip_word ∷ []) = do
  chip ← file_name_of chip_word
  Some (command.Chip chip)
chip_command words = None

-- The numbers of a chip; the greatest least distance between two of its interfaces, in links; and
-- how many pairs of interfaces have no path.
abbrev pub chip_text : ChipData → List ℕ
chip_text chip =
    codes "chip slots " ++ decimal chip.slots ++ codes " routers " ++ decimal (length chip.routers)
    ++ codes " nis " ++ decimal (length chip.nis) ++ codes " links " ++ decimal (length chip.links)
    ++ codes " far " ++ decimal (far_of chip) ++ codes " unreached " ++ decimal (unreached_of chip)
    ++ codes "\n"

-- A chip file is read and summed up.
abbrev pub chip_task : List ℕ → Task
chip_task chip_name = chip_file chip_name (λ chip. ends (done (chip_text chip)))
