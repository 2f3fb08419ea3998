use Rattle.std.proofs.{Common.◌∙◌, Common.ap, Common.codes, lemmas.Result.err_from_is_err_and}
use Rattle.aeth_app.specs.AppFile.{app_of}
use Rattle.aeth_chip.specs.ChipFile.{chip_of}
use Rattle.aeth_demo.specs.Texts.{TextsData}
use Rattle.aeth_answers.specs.Files.{judgement}
use Rattle.aeth_files.proofs.DesignLemmas.{both-given, both-no_app, both-no_chip}
use Rattle.aeth_run_commands.proofs.demo.design_in.Goals as goal

-- There is no chip.
pub returns-in_err-chip-clause-judges : goal.returns-in_err-chip-clause-judges
returns-in_err-chip-clause-judges c =
    let p = err_from_is_err_and c.from_residual.result c.from_residual.ensures.1 in
    let texts = c.args.texts.now in
    let bytes = c.deref.ensures.value ∙ ap (λ (t : TextsData). t.chip) c.texts.view_is in
    λ now. rw (p.1, p.2)
    (both-no_chip (judgement (codes "chip") (chip_of texts.chip))
    (λ chip. judgement (codes "app") (app_of chip texts.app)) now now _
    ((rw bytes at c.in_err-chip.ensures) now))

-- There is no application.
pub returns-in_err-app-clause-judges : goal.returns-in_err-app-clause-judges
returns-in_err-app-clause-judges c =
    let p = err_from_is_err_and c.from_residual-in_err-app.result
    c.from_residual-in_err-app.ensures.1 in
    let texts = c.args.texts.now in
    let chip_bytes = c.deref.ensures.value ∙ ap (λ (t : TextsData). t.chip) c.texts.view_is in
    let app_bytes = c.deref-2.ensures.value ∙ ap (λ (t : TextsData). t.app) c.texts.view_is in
    λ now. rw (p.1, p.2)
    (both-no_app (judgement (codes "chip") (chip_of texts.chip))
    (λ chip. judgement (codes "app") (app_of chip texts.app)) now now now c.in_ok-chip.chip
    ((rw chip_bytes at c.in_ok-chip.ensures) now) _
    ((rw app_bytes at c.in_err-app.ensures.judges) now))

-- Both are told.
pub returns-clause-judges : goal.returns-clause-judges
returns-clause-judges c =
    let texts = c.args.texts.now in
    let chip_bytes = c.deref.ensures.value ∙ ap (λ (t : TextsData). t.chip) c.texts.view_is in
    let app_bytes = c.deref-2.ensures.value ∙ ap (λ (t : TextsData). t.app) c.texts.view_is in
    λ now.
    both-given (judgement (codes "chip") (chip_of texts.chip))
    (λ chip. judgement (codes "app") (app_of chip texts.app)) now now now c.in_ok-chip.chip
    ((rw chip_bytes at c.in_ok-chip.ensures) now) c.in_ok-app.app
    ((rw app_bytes at c.in_ok-app.ensures.judges) now)
