use Rattle.std.proofs.Common.{◌∙◌, ap, arith, length, subst, sym, AllPairs}
use Rattle.aeth_alloc.proofs.EarlierLemmas.{trials-go-on}
use Rattle.aeth_alloc.specs.{Prices.prices_of, Trials.GoesOn}
use Rattle.aeth_base.proofs.Members.{All-slice_get}
use Rattle.aeth_group.specs.Members.{groups_of}
use Rattle.aeth_paths.specs.Trials.{IsTrialOf}
use Rattle.aeth_explain_commands.proofs.ExplainLemmas.{behind-next}
use Rattle.aeth_explain_commands.proofs.explain.next_trial.Goals as goal

-- Its grants are of the chip.
pub put_up_to-requires-clause-grants : goal.put_up_to-requires-clause-grants
put_up_to-requires-clause-grants c =
    rw c.grants.ensures
    (All-slice_get (IsTrialOf c.args.design.now.chip) c.args.refusals.now.tries c.args.i
    c.in_ok-trial.trial c.requires.refusals.fit c.in_ok-trial.ensures).grants

-- The tables have some of them.
pub put_up_to-requires-clause-tables : goal.put_up_to-requires-clause-tables
put_up_to-requires-clause-tables c =
    rw (c.requires.refusals.groups, c.grants.ensures)
    (c.requires.tables c.args.i c.in_ok-trial.trial (omega arith) c.in_ok-trial.ensures).1

pub put_up_to-requires-clause-more : goal.put_up_to-requires-clause-more
put_up_to-requires-clause-more c =
    let few = (c.requires.tables c.args.i c.in_ok-trial.trial (omega arith) c.in_ok-trial.ensures).0 in
    omega (arith, few, c.earlier_count-count.ensures)

pub put_up_to-requires-clause-within : goal.put_up_to-requires-clause-within
put_up_to-requires-clause-within c =
    omega (arith, c.earlier_count-count.ensures, ap length c.grants.ensures)

-- It is a try on the chip.
pub returns-clause-fits : goal.returns-clause-fits
returns-clause-fits c =
    All-slice_get (IsTrialOf c.args.design.now.chip) c.args.refusals.now.tries c.args.i
    c.in_ok-trial.trial c.requires.refusals.fit c.in_ok-trial.ensures

-- The tables have those before its unit's turn.
pub returns-clause-tables : goal.returns-clause-tables
returns-clause-tables c =
    rw (c.requires.refusals.groups, c.grants.ensures) at c.put_up_to.ensures.tables

-- The tries that come later have these too.
pub returns-clause-behind : goal.returns-clause-behind
returns-clause-behind c =
    let design = c.args.design.now in
    behind-next design c.args.refusals.now.tries c.args.i c.in_ok-trial.trial c.put_up_to.new.self
    (subst (AllPairs GoesOn) (sym c.requires.refusals.tries)
    (trials-go-on design.chip design.app (groups_of design.app) (prices_of design.app.price)))
    c.in_ok-trial.ensures (c.put_up_to.ensures.count ∙ c.earlier_count-count.ensures)
    (rw (c.requires.refusals.groups, c.grants.ensures) at c.put_up_to.ensures.tables)
