use Rattle.std.proofs.{Common.List, lemmas.Result.err_from_is_err_and}
use Rattle.aeth_trace.specs.declared.words.WordRow.{WordRow}
use Rattle.aeth_answers.specs.Places.{files_of}
use Rattle.aeth_answers.proofs.FileLemmas.{Answers-stopped, Answers-then}
use Rattle.aeth_run_files.specs.TraceFiles.{words_file}
use Rattle.aeth_plan_commands.specs.Chain.{pulled_task}
use Rattle.aeth_plan_commands.proofs.chain.words_answer.Goals as goal

-- There are no words.
pub returns-in_err-words : goal.returns-in_err-words
returns-in_err-words g c =
    let p = err_from_is_err_and c.from_residual.result c.from_residual.ensures.1 in
    let design = c.args.accepted.now.design.now in
    let files = c.args.files.now in
    let run = c.args.run.now in
    rw (p.1, p.2)
    (Answers-stopped (files_of g.H.Shelf c.args.shelf.now)
    (files_of g.H.Shelf c.read_words_file.new.shelf) (words_file design.app files.words)
    (λ (words : List WordRow). words)
    (λ words. pulled_task design files c.args.accepted.now.planned.now.plan run.u run.items.items run.cycles
    words) _ c.in_err-words.ensures.judges)

-- What comes of the words is answered.
pub returns : goal.returns
returns g c =
    let design = c.args.accepted.now.design.now in
    let files = c.args.files.now in
    let run = c.args.run.now in
    Answers-then (files_of g.H.Shelf c.args.shelf.now)
    (files_of g.H.Shelf c.read_words_file.new.shelf) (files_of g.H.Shelf c.pulled_answer.new.shelf)
    (words_file design.app files.words) (λ (words : List WordRow). words) c.in_ok-words.words
    (λ words. pulled_task design files c.args.accepted.now.planned.now.plan run.u run.items.items run.cycles
    words) c.pulled_answer.result c.in_ok-words.ensures.judges c.pulled_answer.ensures
