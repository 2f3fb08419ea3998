use Rattle.std.proofs.Common.{arith}
use Rattle.aeth_slots.proofs.RoundSearch.{first_starts, none_starts}
use Rattle.aeth_slots.proofs.choice.first_member.Goals as goal

-- The first start that allows so many slots allows just so many.
pub returns-else-not-starts : goal.returns-else-not-starts
returns-else-not-starts c =
    let (member, within) = c.starts.ensures.0 c.if-not-starts.false in
    first_starts c.args.free.now c.args.gap c.args.more c.loop-first.first c.size-size.ensures.set
    c.requires member within c.loop-first.invariant

-- The round that there is starts below the size.
pub returns-after-loop-first : goal.returns-after-loop-first
returns-after-loop-first c =
    absurd (none_starts c.args.free.now c.args.gap c.args.more c.loop-first.first
    c.size-size.ensures.set c.requires (omega (arith, c.size-size.ensures.size))
    c.loop-first.invariant)
