use Rattle.aeth_chain.proofs.RuleLemmas.{kept-items}
use Rattle.aeth_chain.proofs.items.chain_items.Goals as goal

-- Items that keep the rules are items of the use case.
pub returns-clause-items : goal.returns-clause-items
returns-clause-items c =
    let items = c.in_ok-items.ensures in
    let known = rw (c.deref.ensures.value, items) at c.in_ok-judge.ensures in
    let used = rw (c.deref-2.ensures.value, items) at c.in_ok-judge-2.ensures in
    let once = rw (c.deref-4.ensures.value, items) at c.in_ok-judge-4.ensures in
    rw items
    (kept-items c.args.app.now c.args.u.0 c.args.names.now c.requires.names known used once)
