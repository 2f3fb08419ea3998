use Rattle.std.proofs.Common.{◌≡◌, ◌∙◌, ◌+◌, ◌-◌, ℕ, ap, arith, leb}
use Rattle.aeth_slots.specs.{Choice.is_suitable, SlotSet.Slots}
use Rattle.aeth_paths.specs.{Candidates.gap_on, Candidates.is_live, declared.prefix.Prefix.Prefix}
use Rattle.aeth_paths.specs.{declared.prefix.Task.Task, Walk.IsPrefix}
use Rattle.aeth_paths.proofs.LiveLemmas.{suitable-told, suitable-wide}
use Rattle.aeth_paths.proofs.prefix.is_live.Goals as goal

-- The free starts and the gap of a list are those of its path.
at-path : (task : Task) (prefix : Prefix) (gap : ℕ) → IsPrefix task prefix
    → gap ≡ task.ask.latency + 1 - prefix.delay
    → is_suitable task.ask.need gap prefix.free ≡ is_live task.book.now task.ask prefix.path
at-path task prefix gap is told =
    ap (λ n. is_suitable task.ask.need n prefix.free)
    (told ∙ ap (λ d. task.ask.latency + 1 - d) is.delay)
    ∙ ap (is_suitable task.ask.need (gap_on task.book.now task.ask prefix.path)) is.free

-- The gap may be as great as the table.
pub returns-then-gap-size : goal.returns-then-gap-size
returns-then-gap-size c =
    let free : Slots = c.args.prefix.now.free in
    let gap : ℕ = c.saturating_sub-gap.result in
    ap (λ n. leb n c.count.result) c.max.ensures ∙ ap (leb _) c.count.ensures.count
    ∙ suitable-wide free c.args.task.now.ask.need gap c.count.ensures.set
    (omega (arith, c.if-gap-size.true, c.size.ensures.size))
    ∙ at-path c.args.task.now c.args.prefix.now gap c.requires.prefix c.saturating_sub-gap.ensures

-- Else the slots are asked.
pub returns : goal.returns
returns c =
    suitable-told c.args.prefix.now.free c.args.task.now.ask.need c.saturating_sub-gap.result
    c.suitable.result c.suitable.ensures.suitable
    ∙ at-path c.args.task.now c.args.prefix.now c.saturating_sub-gap.result c.requires.prefix
    c.saturating_sub-gap.ensures
