use Rattle.aeth_answers.{specs.Places.files_of, proofs.FileLemmas.Answers-ended}
use Rattle.aeth_design_commands.specs.{Server.latency_job, Slots.chosen_job}
use Rattle.aeth_design_commands.proofs.SlotJobs.{chosen_job-is, latency_job-is}
use Rattle.aeth_design_commands.proofs.command.DesignCommand.answer.Goals as goal

-- No file is read.
pub returns-in-Slots : goal.returns-in-Slots
returns-in-Slots g c =
    let it = c.in-Slots in
    let is = chosen_job-is it.need it.gap it.free in
    rw it.is
    (Answers-ended (files_of g.H.Shelf c.args.shelf.now) (chosen_job it.need it.gap it.free)
    c.answer.result c.ended.result is.0 is.1 c.answer.ensures c.ended.ensures)

pub returns-in-Server : goal.returns-in-Server
returns-in-Server g c =
    let it = c.in-Server in
    let is = latency_job-is it.need it.links it.slots in
    rw it.is
    (Answers-ended (files_of g.H.Shelf c.args.shelf.now) (latency_job it.need it.links it.slots)
    c.answer-in-Server.result c.ended-in-Server.result is.0 is.1 c.answer-in-Server.ensures
    c.ended-in-Server.ensures)

-- The files are read.
pub returns-in-Chip : goal.returns-in-Chip
returns-in-Chip g c = rw c.in-Chip.is c.answer-in-Chip.ensures

pub returns-in-App : goal.returns-in-App
returns-in-App g c = rw c.in-App.is c.answer-in-App.ensures

pub returns-in-Allocate : goal.returns-in-Allocate
returns-in-Allocate g c = rw c.in-Allocate.is c.answer-in-Allocate.ensures

pub returns-in-Check : goal.returns-in-Check
returns-in-Check g c = rw c.in-Check.is c.answer-in-Check.ensures
