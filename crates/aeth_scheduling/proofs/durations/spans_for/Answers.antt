use Rattle.std.proofs.Common.{◌≡◌, ◌∙◌, ℕ, ap, refl, subst, sym}
use Rattle.std.proofs.lemmas.Result.{IfOk-weaker}
use Rattle.aeth_group.specs.Members.{groups_of}
use Rattle.aeth_trace.specs.Spans.{SpanData}
use Rattle.aeth_tables.specs.Switching.{spans_of}
use Rattle.aeth_accepted.specs.Inputs.{run_of}
use Rattle.aeth_scheduling.{specs.Tasks.AreSpansFor, proofs.ScheduleLemmas.planned-spans}
use Rattle.aeth_scheduling.proofs.durations.spans_for.Goals as goal

-- The plan is one of the chip and the application.
pub spans-requires-clause-plan : goal.spans-requires-clause-plan
spans-requires-clause-plan c =
    rw (c.chip.ensures, c.app.ensures, c.groups-2.ensures, c.plan.ensures)
    c.are_accepted.ensures.design.plan_is

-- The spans of the plan serve.
pub returns : goal.returns
returns c =
    let inputs = c.args.inputs.now in
    let made = spans_of c.chip.result.now c.app.result.now c.groups-2.result.now c.plan.result.now in
    let same : made ≡ (run_of inputs).spans =
    rw (c.chip.ensures, c.app.ensures, c.groups-2.ensures, c.plan.ensures) refl in
    let serve = planned-spans inputs c.are_accepted.ensures (λ u v from to.
    ap (λ (pair : ℕ × ℕ). pair.0) (c.switches.ensures.each inputs.chip inputs.app
    (groups_of inputs.app) inputs.plan u v from to)) in
    IfOk-weaker c.spans.result (λ (spans : SpanData). spans ≡ made)
    (λ (spans : SpanData). AreSpansFor inputs spans)
    (λ spans is. subst (λ (s : SpanData). AreSpansFor inputs s) (sym (is ∙ same)) serve)
    c.spans.ensures
