use Rattle.std.proofs.Common.{◌∙◌, ◌+◌, ℕ, Option, ap, arith, drop, length, refl, sym, unwrap_or}
use Rattle.std.proofs.lemmas.Option.{slice_get_read}
use Rattle.aeth_answers.specs.Job.{Job}
use Rattle.aeth_text.specs.Order.{line_after}
use Rattle.aeth_explain_commands.specs.Explain.{flaw_of, verdicts_job}
use Rattle.aeth_explain_commands.proofs.ExplainLemmas.{first-tables, verdicts-step}
use Rattle.aeth_explain_commands.proofs.confirm.verdicts.Goals as goal

-- None was judged, and the tables have no grants.
pub loop-i-init : goal.loop-i-init
loop-i-init c = record {
  job = refl;
  tables = first-tables c.args.design.now c.args.refusals.now.tries _ c.in_ok-tables.ensures.count
      (rw c.requires.refusals.groups at c.in_ok-tables.ensures.tables);
}

-- The lists of this try are no certificate.
pub returns-in-Some : goal.returns-in-Some
returns-in-Some c =
    let design = c.args.design.now in
    let tries = c.args.refusals.now.tries in
    let blocks = c.args.blocks.now in
    let i = c.loop-i.i in
    let line = c.loop-i.line in
    let own = c.index-blocks-i.result in
    let trial = c.in_ok-trial.trial in
    let its = slice_get_read blocks (length blocks) i own refl (omega (arith, c.loop-i-test.true))
    c.index-blocks-i.is in
    let some = sym (c.in_ok-answer.ensures trial (sym c.of-tried.ensures)
    ∙ ap (flaw_of design.app line trial) c.in_ok-verdict.ensures) ∙ c.in-Some.is in
    sym (verdicts-step design line i tries blocks trial own c.in_ok-trial.ensures.trial its
    ∙ ap (λ (o : Option Job). unwrap_or o (verdicts_job design (line_after line (1 + length own))
    (drop (i + 1) tries) (drop (i + 1) blocks))) some) ∙ c.loop-i.invariant.job

-- They are one.
pub loop-i-preserved : goal.loop-i-preserved
loop-i-preserved c =
    let design = c.args.design.now in
    let tries = c.args.refusals.now.tries in
    let blocks = c.args.blocks.now in
    let i = c.loop-i.i in
    let line = c.loop-i.line in
    let own = c.index-blocks-i.result in
    let trial = c.in_ok-trial.trial in
    let its = slice_get_read blocks (length blocks) i own refl (omega (arith, c.loop-i-test.true))
    c.index-blocks-i.is in
    let none = sym (c.in_ok-answer.ensures trial (sym c.of-tried.ensures)
    ∙ ap (flaw_of design.app line trial) c.in_ok-verdict.ensures) ∙ c.in_default.is in
    record {
      job = ap (λ (n : ℕ). verdicts_job design n (drop (i + 1) tries) (drop (i + 1) blocks))
          (c.line_after-line.ensures ∙ ap (λ (m : ℕ). line_after line (1 + m)) c.len.ensures.len)
          ∙ sym (verdicts-step design line i tries blocks trial own c.in_ok-trial.ensures.trial its
          ∙ ap (λ (o : Option Job). unwrap_or o (verdicts_job design (line_after line (1 + length own))
          (drop (i + 1) tries) (drop (i + 1) blocks))) none) ∙ c.loop-i.invariant.job;
      tables = c.in_ok-trial.ensures.behind;
    }
