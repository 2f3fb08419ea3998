use Rattle.std.proofs.lemmas.Result.{err_from_is_err_and}
use Rattle.aeth_plan.specs.declared.design.Design.{Design}
use Rattle.aeth_answers.specs.Places.{files_of}
use Rattle.aeth_answers.proofs.FileLemmas.{Answers-stopped, Answers-then}
use Rattle.aeth_files.specs.Files.{design_file}
use Rattle.aeth_plan_commands.specs.Chain.{named_task}
use Rattle.aeth_plan_commands.proofs.chain.answer.Goals as goal

-- There is no design.
pub returns-in_err-design : goal.returns-in_err-design
returns-in_err-design g c =
    let p = err_from_is_err_and c.from_residual.result c.from_residual.ensures.1 in
    let files = c.args.files.now in
    rw (p.1, p.2)
    (Answers-stopped (files_of g.H.Shelf c.args.shelf.now)
    (files_of g.H.Shelf c.read_design.new.shelf) (design_file files.chip files.app)
    (λ (design : Design). design)
    (λ design. named_task design files c.args.name.now c.args.items.now c.args.cycles) _
    c.in_err-design.ensures.judges)

-- What comes of the design is answered.
pub returns : goal.returns
returns g c =
    let files = c.args.files.now in
    Answers-then (files_of g.H.Shelf c.args.shelf.now)
    (files_of g.H.Shelf c.read_design.new.shelf) (files_of g.H.Shelf c.named_answer.new.shelf)
    (design_file files.chip files.app) (λ (one : Design). one) c.in_ok-design.design
    (λ design. named_task design files c.args.name.now c.args.items.now c.args.cycles)
    c.named_answer.result c.in_ok-design.ensures.judges
    (rw c.as_slice.ensures at c.named_answer.ensures)
