use Rattle.std.proofs.Common.{sym, ◌∙◌, ap, ◌++◌, ◌∷◌, []}
use Rattle.aeth_group.proofs.ListLemmas.{take-at}
use Rattle.aeth_book.proofs.making.links_of.Goals as goal

-- One more link was pushed.
pub loop-l-preserved : goal.loop-l-preserved
loop-l-preserved c =
    c.in_ok-push.ensures.items
    ∙ ap (λ links. links ++ c.link.result ∷ []) c.loop-l.invariant
    ∙ sym (take-at c.args.chip.now.links c.loop-l.l c.link.result c.link.ensures.link)
