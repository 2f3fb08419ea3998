use Rattle.std.proofs.{Common.◌∙◌, Common.List, Common.ap, Common.slice_get, lemmas.Bool.OnTrue_at}
use Rattle.aeth_base.proofs.TestLemmas.{true_from_IsTrue}
use Rattle.aeth_chip.specs.declared.node.Link.{Link}
use Rattle.aeth_paths.proofs.PrefixLemmas.{prefix-push}
use Rattle.aeth_paths.proofs.prefix.grown.Goals as goal

-- All is known of the longer list.
pub returns-clause-prefix : goal.returns-clause-prefix
returns-clause-prefix g c =
    prefix-push c.args.task.now c.args.prefix.now c.args.link c.link-to.result c.requires.prefix
    (ap (λ (ls : List Link). slice_get ls c.args.link.0) c.requires.task.book
    ∙ c.link-to.ensures.link)
    c.push.new.self c.with_node.result c.used.result c.of.result c.narrow-free.result
    c.link-to.ensures.delay.1
    (OnTrue_at (true_from_IsTrue c.push.result (c.push.ensures.room.1 c.requires.short))
    c.push.ensures.pushed) c.with_node.ensures c.narrow-free.ensures.starts
    c.used.ensures.used c.of.ensures.cost c.of.ensures.most
