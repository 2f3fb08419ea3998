use Rattle.std.proofs.Common.{◌+◌, ◌-◌, ◌∙◌, ap, arith, leb}
use Rattle.aeth_slots.specs.Choice.{is_suitable}
use Rattle.aeth_paths.proofs.LiveLemmas.{suitable-wide}
use Rattle.aeth_explain.specs.Masks.{TryJudgeData}
use Rattle.aeth_explain.proofs.try_judge.TryJudge.suits.Goals as goal

-- The gap may be as great as the table.
pub returns-then-gap-size : goal.returns-then-gap-size
returns-then-gap-size c =
    ap (λ n. leb n c.count.result) c.max.ensures ∙ ap (leb _) c.count.ensures.count
    ∙ suitable-wide c.args.free.now c.ask-ask.result.need c.saturating_sub-gap.result
    c.count.ensures.set (omega (arith, c.if-gap-size.true, c.size.ensures.size))
    ∙ ap (λ n. is_suitable c.ask-ask.result.need n c.args.free.now) c.saturating_sub-gap.ensures
    ∙ ap (λ ask. is_suitable ask.need (ask.latency + 1 - c.args.delay) c.args.free.now)
    c.ask-ask.ensures
    ∙ ap (λ (j : TryJudgeData). is_suitable j.trial.ask.need
    (j.trial.ask.latency + 1 - c.args.delay) c.args.free.now) c.self.view_is
