use Rattle.std.proofs.{Common.◌∙◌, Common.sym, lemmas.Bool.false≢true}
use Rattle.aeth_group.proofs.MarkLemmas.{leading-mark, leading-skip, length-before}
use Rattle.aeth_group.proofs.closing.lead_over.Goals.{else-marked, else-marked-via-else-marked}
use Rattle.aeth_group.proofs.closing.lead_over.Goals.{else-marked-via-then-marked+else-not-marked-2}
use Rattle.aeth_group.proofs.closing.lead_over.Goals.{then-marked+then-not-marked-2}
use Rattle.aeth_group.proofs.closing.lead_over.Goals as goal

-- One more mark, or none that is wanted.
pub loop-v-preserved : goal.loop-v-preserved
loop-v-preserved c =
    let onward = c.marked-in-loop-v.ensures in
    let skip = leading-skip c.args.marks.now c.loop-v.marks c.loop-v.added c.args.u c.args.w
    c.loop-v.v c.loop-v.invariant in
    elim c.if-marked.branch [
      | then-marked+then-not-marked-2 w ↦ rw (w.marks-is, w.mark.ensures, w.added-is)
          (leading-mark c.args.marks.now c.loop-v.marks c.loop-v.added c.args.u c.args.w
          c.loop-v.v _ c.loop-v.invariant
          (length-before c.loop-v.marks w.mark.new.marks c.args.u c.loop-v.v w.mark.ensures
          w.mark.array_long)
          c.requires.first c.loop-v-test.true (sym onward ∙ w.if-marked.true)
          (sym w.marked-then-marked.ensures ∙ w.if-not-marked-2.true))
      | else-marked w ↦ rw (w.marks-is, w.added-is) (elim w.else-marked.branch [
        | else-marked-via-then-marked+else-not-marked-2 x ↦
            skip (λ _. sym x.marked-then-marked.ensures ∙ x.if-not-marked-2.false)
        | else-marked-via-else-marked x ↦
            skip (λ is. absurd (false≢true (sym x.if-marked.false ∙ onward ∙ is)))
      ])
    ]
