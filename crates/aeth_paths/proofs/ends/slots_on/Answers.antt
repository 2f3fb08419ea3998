use Rattle.std.proofs.Common.{◌≡◌, ◌∙◌, List, sym, ap, arith}
use Rattle.aeth_slots.specs.{SlotSet.Slots, Choice.chosen, Choice.is_suitable}
use Rattle.aeth_slots.proofs.ChoiceLemmas.{is_suitable-true}
use Rattle.aeth_chip.specs.{declared.node.Link.Link, Paths.path_delay}
use Rattle.aeth_paths.specs.Candidates.{gap_on}
use Rattle.aeth_paths.proofs.EndLemmas.{chosen-need, path-delay-some}
use Rattle.aeth_paths.proofs.ends.slots_on.Goals as goal

-- A path takes at least a cycle.
pub overflow_sub-path_delay : goal.overflow_sub-path_delay
overflow_sub-path_delay c =
    let some = path-delay-some c.args.task.now.chip.now c.args.path.now c.requires.task.is_chip
    c.requires.some c.requires.links in
    omega (arith, some, c.path_delay.ensures.delay)

gap-is : (c : goal.After-choose) → c.saturating_sub-gap.result
    ≡ gap_on c.args.task.now.book.now c.args.task.now.ask c.args.path.now
gap-is c =
    let some = path-delay-some c.args.task.now.chip.now c.args.path.now c.requires.task.is_chip
    c.requires.some c.requires.links in
    let same = ap (λ (ls : List Link). path_delay ls c.args.path.now) c.requires.task.book in
    omega (arith, some, same, c.path_delay.ensures.delay, c.saturating_sub-gap.ensures)

-- The free starts are suitable.
pub unwrap-requires : goal.unwrap-requires
unwrap-requires c =
    let ask = c.args.task.now.ask in
    let suitable = is_suitable-true ask.need
    (gap_on c.args.task.now.book.now ask c.args.path.now) c.free-free.result
    (ap (is_suitable ask.need (gap_on c.args.task.now.book.now ask c.args.path.now))
    c.free-free.ensures.free ∙ c.requires.live) in
    c.choose.ensures.whole.1 (record {
      some = suitable.some;
      enough = omega (arith, suitable.some, suitable.enough, c.max.ensures);
      near = omega (arith, suitable.near, gap-is c);
    })

-- They are chosen.
pub returns : goal.returns
returns c =
    let task = c.args.task.now in
    let gap = gap_on task.book.now task.ask c.args.path.now in
    ap (λ (free : Slots). chosen free task.ask.need gap) (sym c.free-free.ensures.free)
    ∙ sym (chosen-need c.free-free.result task.ask.need gap)
    ∙ ap (λ n. chosen c.free-free.result n gap) (sym c.max.ensures)
    ∙ ap (chosen c.free-free.result c.max.result) (sym (gap-is c.before))
    ∙ sym c.choose.ensures.chosen ∙ c.unwrap.ensures
