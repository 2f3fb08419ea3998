use Rattle.std.proofs.Common.{◌≡◌, ◌≢◌, ◌∙◌, [], length, ap, refl, sym, arith, eqb-true}
use Rattle.std.proofs.lemmas.{Bool.eqb-false, List.nil_from_length}
use Rattle.std.specs.Vec.{vec_len}
use Rattle.aeth_alloc.specs.Allocation.{OutcomeData}
use Rattle.aeth_answers.specs.Job.{not_granted}
use Rattle.aeth_design_commands.specs.Allocate.{refusals_text}
use Rattle.aeth_run_commands.proofs.DemoLemmas.{Judges-no_refusals, Judges-refusals}
use Rattle.aeth_run_commands.proofs.demo.without_refusals.Goals as goal

-- Units are refused.
pub returns-in_ok-lines-clause-judges : goal.returns-in_ok-lines-clause-judges
returns-in_ok-lines-clause-judges c =
    let refused = c.outcome.inside.refused in
    let long = refused.ok in
    let seen = ap (λ (o : OutcomeData). o.refused) c.outcome.view_is in
    let some : c.args.outcome.refused ≢ [] = λ none.
    let empty : refused.items ≡ [] = seen ∙ none in
    let count : length refused.items ≡ 0 = ap length empty in
    eqb-false (vec_len refused) 0 (sym c.is_empty.ensures ∙ c.if-is_empty.false)
    (omega (arith, long, count)) in
    Judges-refusals c.args.app.now c.args.outcome c.not_granted.result some
    (c.not_granted.ensures ∙ ap not_granted (c.in_ok-lines.ensures
    ∙ ap (refusals_text c.args.app.now) (c.deref.ensures.value ∙ seen)))

-- No unit is refused.
pub returns-then-is_empty : goal.returns-then-is_empty
returns-then-is_empty c =
    let refused = c.outcome.inside.refused in
    let long = refused.ok in
    let zero = eqb-true (vec_len refused) 0 (sym c.is_empty.ensures ∙ c.if-is_empty.true) in
    let none_inside : refused.items ≡ [] = nil_from_length refused.items (omega (arith, long, zero)) in
    let none = ap (λ (o : OutcomeData). o.refused) (sym c.outcome.view_is) ∙ none_inside in
    let plan = ap (λ (o : OutcomeData). o.plan) c.outcome.view_is in
    record {
      judges = Judges-no_refusals c.args.app.now c.args.outcome _ plan none;
      none = none;
      groups = refl;
      plan = plan;
    }
