use Rattle.std.proofs.Common.{◌≡◌, List, subst, IfOk, Vec, Global}
use Rattle.std.proofs.lemmas.Result.{err_from_is_err_and}
use Rattle.aeth_answers.specs.{Job.Job, Places.files_of, Task.Task, Task.ends}
use Rattle.aeth_answers.proofs.FileLemmas.{Answers-ended, Answers-stopped, Answers-then}
use Rattle.aeth_base.specs.declared.ids.LinkId.{LinkId}
use Rattle.aeth_paths.specs.Trials.{TrialData}
use Rattle.aeth_plan.specs.declared.design.Design.{Design}
use Rattle.aeth_explain_commands.specs.Explain.{cert_file, refused_tries, verdicts_job}
use Rattle.aeth_explain_commands.proofs.VerdictJobs.{verdicts_job-is}
use Rattle.aeth_explain_commands.proofs.confirm.judged_answer.Goals as goal

-- What comes of the lists of a text.
abbrev said : Design → List (List (List LinkId)) → Task
said design blocks = ends (verdicts_job design 2 (refused_tries design) blocks)

-- There is no such text.
pub returns-in_err-blocks : goal.returns-in_err-blocks
returns-in_err-blocks g c =
    let p = err_from_is_err_and c.from_residual.result c.from_residual.ensures.1 in
    rw (p.1, p.2)
    (Answers-stopped (files_of g.H.Shelf c.args.shelf.now)
    (files_of g.H.Shelf c.read_cert_file.new.shelf) (cert_file c.args.design.now c.args.cert.now)
    (λ (blocks : Vec (List (List LinkId)) Global). blocks.items) (said c.args.design.now) _
    c.in_err-blocks.ensures.judges)

-- Its verdicts are told.
pub returns : goal.returns
returns g c =
    let now = files_of g.H.Shelf c.read_cert_file.new.shelf in
    let design = c.args.design.now in
    let blocks = c.in_ok-blocks.blocks in
    let job = verdicts_job-is design 2 (refused_tries design) blocks.items in
    Answers-then (files_of g.H.Shelf c.args.shelf.now) now now (cert_file design c.args.cert.now)
    (λ (blocks : Vec (List (List LinkId)) Global). blocks.items) blocks (said design) c.ended.result
    c.in_ok-blocks.ensures.judges
    (Answers-ended now (verdicts_job design 2 (refused_tries design) blocks.items)
    c.verdicts.result c.ended.result job.0 job.1
    (subst (λ (tries : List TrialData). IfOk c.verdicts.result (λ (answer : Job).
    answer ≡ verdicts_job design 2 tries blocks.items)) c.requires.tries
    (rw c.deref.ensures.value at c.verdicts.ensures)) c.ended.ensures)
