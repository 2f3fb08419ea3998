use Rattle.std.proofs.Common.{◌≡◌, ◌+◌, ◌-◌, max, sym, subst, arith}
use Rattle.std.proofs.lemmas.Bool.{both_ways}
use Rattle.aeth_slots.specs.{Choice.IsChosen, Ways.HasRound}
use Rattle.aeth_slots.proofs.ChoiceLemmas.{chosen-is, chosen-nothing, whole-suitable}
use Rattle.aeth_slots.proofs.RoundSearch.{round_needed, round_chosen}
use Rattle.aeth_slots.proofs.choice.choose.Goals as goal

-- Where a subset is suitable, the whole set is.
pub returns-then-not-suitable-clause-chosen : goal.returns-then-not-suitable-clause-chosen
returns-then-not-suitable-clause-chosen c =
    sym (chosen-nothing c.args.free.now c.args.need c.args.gap (λ set subset suitable.
    both_ways _ c.if-not-suitable.true
    (c.suitable.ensures.suitable.1
    (whole-suitable c.args.free.now c.args.need c.args.gap set c.suitable.ensures.set subset
    suitable))))

-- There is a round of as many slots.
pub first_member-first-requires : goal.first_member-first-requires
first_member-first-requires c =
    let count : max c.least_size.result c.args.need ≡ c.max-more.result - 1 + 1 =
    omega (arith, c.max-more.ensures) in
    subst (HasRound c.args.free.now c.args.gap) count
    (round_needed c.args.free.now c.args.need c.args.gap c.least_size.result c.suitable.ensures.set
    (c.suitable.ensures.suitable.0 c.if-not-suitable.false) c.least_size.ensures)

-- The first round of so many slots is the chosen set.
is_chosen : (c : goal.After-first_round)
    → IsChosen c.args.free.now c.args.need c.args.gap c.first_round.result
is_chosen c =
    round_chosen c.args.free.now c.first_round.result c.args.need c.args.gap c.least_size.result
    (c.max-more.result - 1 + 1) c.suitable.ensures.set
    c.least_size.ensures (omega (arith, c.max-more.ensures)) c.first_round.ensures.size
    c.first_round.ensures.round

-- It is what `chosen` gives, since one set at most is chosen.
pub returns-clause-chosen : goal.returns-clause-chosen
returns-clause-chosen c =
    sym (chosen-is c.args.free.now c.args.need c.args.gap c.first_round.result (is_chosen c))

-- It is the chosen set.
pub returns-clause-some : goal.returns-clause-some
returns-clause-some c = is_chosen c
