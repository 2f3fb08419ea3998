-- `slots SIZE NEED GAP FREE`: the chosen set out of the free slots of a table.
-- This project's own.
use Rattle.std.proofs.Common.{ℕ, ◌++◌, List, [], ◌∷◌, Option, Some, None, codes}
use Rattle.aeth_base.specs.Limits.{max_slots}
use Rattle.aeth_slots.specs.{SlotSet.Slots, Choice.chosen}
use Rattle.aeth_design_commands.specs.{declared.command.DesignCommand.DesignCommand, Limits.max_gap}
use Rattle.aeth_answers.specs.{Job.Job, Job.done, Job.not_granted, Text.list_text, Words.◌>>=◌}
use Rattle.aeth_answers.specs.{Words.number_within, Words.slot_set_of}
use Rattle.aeth_design_commands.specs.declared.command.DesignCommand.TheVariants as command

-- SIZE and NEED from 1 to the size of the largest table, GAP from 0 to the greatest gap, FREE a
-- list of slots.
abbrev pub slots_command : List (List ℕ) → Option DesignCommand
slots_command (size_word ∷ need_word ∷ gap_word ∷ free_word ∷ []) = do
  size ← number_within 1 max_slots size_word
  need ← number_within 1 max_slots need_word
  gap ← number_within 0 max_gap gap_word
  free ← slot_set_of size free_word
  Some (command.Slots need gap free)
slots_command words = None

-- The chosen slots, or that there are none.
abbrev pub chosen_text : Option Slots → Job
chosen_text None = not_granted (codes "no slots\n")
chosen_text (Some set) = done (list_text set.slots ++ codes "\n")

-- The slots that are chosen out of the free ones, for a need and a greatest gap.
abbrev pub chosen_job : ℕ → ℕ → Slots → Job
chosen_job need gap free = chosen_text (chosen free need gap)
