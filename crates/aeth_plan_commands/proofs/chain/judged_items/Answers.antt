use Rattle.std.proofs.Common.{Vec, codes, Global}
use Rattle.aeth_answers.proofs.FileLemmas.{HandsOn-keeps, Judges-told}
use Rattle.aeth_chain.specs.{declared.item.ChainItem.ChainItem, ChainItems.AreItemsOf}
use Rattle.aeth_chain.specs.{ChainItems.items_of, Fault.rule_of}
use Rattle.aeth_plan_commands.proofs.chain.judged_items.Goals as goal

-- The names are judged.
pub returns-clause-judges : goal.returns-clause-judges
returns-clause-judges c =
    λ now. Judges-told now (codes "chain") rule_of (λ (items : Vec ChainItem Global). items.items)
    (items_of c.args.app.now c.args.u.0 c.args.names.now) c.chain_items.result c.judged.result
    c.chain_items.ensures.reads c.judged.ensures

-- What is handed on are items of the use case.
pub returns-clause-items : goal.returns-clause-items
returns-clause-items c =
    HandsOn-keeps rule_of (codes "chain")
    (λ (items : Vec ChainItem Global). AreItemsOf c.args.app.now c.args.u.0 items.items)
    c.chain_items.result c.judged.result c.chain_items.ensures.items c.judged.ensures
