use Rattle.std.proofs.Common.{sym, ◌∙◌}
use Rattle.aeth_chip.specs.Nodes.{begins_at, sends_on}
use Rattle.aeth_chip.proofs.NodeLemmas.{numbers_from-fails, numbers_from-passes}
use Rattle.aeth_router.proofs.router.sending.Goals.{then-begins_at+in_ok-push, else-begins_at}
use Rattle.aeth_router.proofs.router.sending.Goals as goal

-- The link is one more where it passes, and none where it fails.
pub loop-number-preserved : goal.loop-number-preserved
loop-number-preserved c =
    let links = c.args.chip.now.links in
    let all = sends_on c.args.node links in
    elim c.if-begins_at.branch [
      | then-begins_at+in_ok-push w ↦
          rw (w.links-is, w.in_ok-push.ensures.items)
          (numbers_from-passes (begins_at c.args.node) links c.loop-number.links.items all
          c.loop-number.number c.link.result c.link.ensures.link c.loop-number.invariant
          (sym c.begins_at.ensures ∙ w.if-begins_at.true))
      | else-begins_at w ↦
          rw w.links-is
          (numbers_from-fails (begins_at c.args.node) links c.loop-number.links.items all
          c.loop-number.number c.link.result c.link.ensures.link c.loop-number.invariant
          (sym c.begins_at.ensures ∙ w.if-begins_at.false))
    ]
