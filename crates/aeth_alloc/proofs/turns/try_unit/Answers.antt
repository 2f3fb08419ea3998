use Rattle.std.proofs.Common.{◌≡◌, ◌∙◌, None, Some, cond, ap, sym}
use Rattle.aeth_base.specs.declared.ids.Side.TheVariants.{Back, Fwd}
use Rattle.aeth_alloc.specs.{Channels.Reserved, Channels.tried, Turns.after_back, Turns.after_fwd}
use Rattle.aeth_alloc.proofs.{BackLemmas.IsTaken, BackLemmas.taken, TurnLemmas.reserved-tried}
use Rattle.aeth_alloc.proofs.{turns.try_unit.Goals.After-try_channel-2}
use Rattle.aeth_alloc.proofs.turns.try_unit.Given as given
use Rattle.aeth_alloc.proofs.turns.try_unit.Goals as goal

-- What the `fwd` channel left is of the design.
pub try_channel-requires-2-clause-reserved : goal.try_channel-requires-2-clause-reserved
try_channel-requires-2-clause-reserved g c =
    reserved-tried c.args.design.now c.args.reserved.now c.try_channel.new.self c.args.unit Fwd
    c.requires.reserved
    (c.in_ok-try_channel.ensures.tried
    ∙ ap (λ b. cond b (Some c.try_channel.new.self) None) c.if-not-branch.false)

-- The `fwd` channel was granted.
granted : (g : given.Over) (c : goal.After-try_channel-2 g)
    → tried c.args.design.now c.args.reserved.now c.args.unit Fwd ≡ Some c.try_channel.new.self
granted g c =
    c.in_ok-try_channel.ensures.tried
    ∙ ap (λ b. cond b (Some c.try_channel.new.self) None) c.if-not-branch.false

-- What it took can be given back.
took : (g : given.Over) (c : goal.After-try_channel-2 g)
    → IsTaken (record { book = c.reserved.inside.book; seats = c.reserved.inside.seats })
    c.try_channel.new.self c.connection-connection.result
took g c =
    taken _ c.args.design.now _ c.args.reserved.now c.try_channel.new.self c.args.unit
    c.connection-connection.result _ c.design.view_is c.reserved.view_is c.design.invariant
    c.list-grants.ensures.book c.unseated-from.ensures.seats c.requires.reserved
    c.connection-connection.ensures.connection c.connection-connection.ensures.joined (granted g c)

pub give_back-requires-clause-some : goal.give_back-requires-clause-some
give_back-requires-clause-some g c =
    rw (c.in_ok-try_channel-2.ensures.kept c.if-not-branch-2.true)
    (took g (goal.at.give_back-requires-clause-some g c).After-try_channel-2).some

pub give_back-requires-clause-from : goal.give_back-requires-clause-from
give_back-requires-clause-from g c =
    rw (c.in_ok-try_channel-2.ensures.kept c.if-not-branch-2.true, c.unseated-from.ensures.core)
    (took g (goal.at.give_back-requires-clause-from g c).After-try_channel-2).from

pub give_back-requires-clause-to : goal.give_back-requires-clause-to
give_back-requires-clause-to g c =
    rw (c.in_ok-try_channel-2.ensures.kept c.if-not-branch-2.true, c.unseated-to.ensures.core)
    (took g (goal.at.give_back-requires-clause-to g c).After-try_channel-2).to

-- All is as it was before.
pub returns-then-not-branch-2 : goal.returns-then-not-branch-2
returns-then-not-branch-2 g c =
    let at = (goal.at.returns-then-not-branch-2 g c).After-try_channel-2 in
    let same = c.in_ok-try_channel-2.ensures.kept c.if-not-branch-2.true in
    let back : c.give_back.new.self ≡ c.args.reserved.now =
    (took g at).back c.give_back.new.self (rw same at c.give_back.ensures.book)
    (rw (same, c.unseated-from.ensures.core, c.unseated-to.ensures.core)
    at c.give_back.ensures.seats) ∙ c.reserved.view_is in
    ap (after_fwd c.args.design.now c.args.reserved.now c.args.unit) (granted g at)
    ∙ ap (after_back c.args.reserved.now) (c.in_ok-try_channel-2.ensures.tried
    ∙ ap (λ b. cond b (Some c.try_channel-2.new.self) None) c.if-not-branch-2.true)
    ∙ ap (λ (r : Reserved). record { reserved = r; refused = Some Back }) (sym back)
