-- `server SIZE NEED LINKS SLOTS`: the rate that a need stands for, the least latency that the slots
-- guarantee at this rate, and the total over a path.
-- This project's own.
use Rattle.std.proofs.Common.{ℕ, ◌+◌, ◌*◌, ◌++◌, nat_le, List, [], ◌∷◌, length, Option, Some, None}
use Rattle.std.proofs.Common.{codes, decimal, if◌then◌else◌}
use Rattle.aeth_base.specs.Limits.{max_path_delay, max_slots, min_path_links, words_per_flit}
use Rattle.aeth_server.specs.Latency.{latency_of}
use Rattle.aeth_slots.specs.SlotSet.{Slots}
use Rattle.aeth_design_commands.specs.declared.command.DesignCommand.{DesignCommand}
use Rattle.aeth_answers.specs.Job.{Job, done, not_granted}
use Rattle.aeth_answers.specs.Words.{◌>>=◌, number_within, slot_set_of}
use Rattle.aeth_design_commands.specs.declared.command.DesignCommand.TheVariants as command

-- SIZE and NEED from 1 to the size of the largest table, LINKS the delay of a path, in cycles,
-- SLOTS a list of slots.
abbrev pub server_command : List (List ℕ) → Option DesignCommand
server_command (size_word ∷ need_word ∷ links_word ∷ slots_word ∷ []) = do
  size ← number_within 1 max_slots size_word
  need ← number_within 1 max_slots need_word
  links ← number_within min_path_links max_path_delay links_word
  slots ← slot_set_of size slots_word
  Some (command.Server need links slots)
server_command words = None

-- The rate in words per table of a need in flits per table, the latency of the slots at this rate,
-- and with the delay of a path the total, both in cycles.
abbrev pub latency_text : ℕ → ℕ → Slots → List ℕ
latency_text need links set =
    let rate = words_per_flit * need in
    let latency = latency_of set.size set.slots words_per_flit rate in
    codes "rate " ++ decimal rate ++ codes "/" ++ decimal set.size ++ codes " latency "
    ++ decimal latency ++ codes " total " ++ decimal (latency + links) ++ codes "\n"

-- The rate and the latency, where the slots are enough for the need.
abbrev pub latency_job : ℕ → ℕ → Slots → Job
latency_job need links set =
    if nat_le need (length set.slots) then done (latency_text need links set)
    else not_granted (codes "too few slots\n")
