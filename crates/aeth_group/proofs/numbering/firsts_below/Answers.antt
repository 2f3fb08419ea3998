use Rattle.std.proofs.Common.{◌∙◌, sym, eq-eqb, ne_eqb}
use Rattle.aeth_group.specs.{Marks.marked, Numbering.first_with, Numbering.is_first}
use Rattle.aeth_group.proofs.Ranges.{counted-fails, counted-passes}
use Rattle.aeth_group.proofs.numbering.firsts_below.Goals.{else-first_with-u, then-first_with-u}
use Rattle.aeth_group.proofs.numbering.firsts_below.Goals as goal

-- One more use case.
pub loop-u-preserved : goal.loop-u-preserved
loop-u-preserved c =
    let joined = marked c.args.marks.now in
    let first = first_with joined c.args.uses c.loop-u.u in
    let is = c.first_with.ensures.first in
    elim c.if-first_with-u.branch [
      | then-first_with-u w ↦ counted-passes (is_first joined c.args.uses) c.loop-u.u
          c.loop-u.firsts c.if-first_with-u.firsts c.loop-u.invariant
          (eq-eqb first c.loop-u.u (sym is ∙ w.if-first_with-u.true)) w.firsts-is
      | else-first_with-u w ↦ counted-fails (is_first joined c.args.uses) c.loop-u.u
          c.loop-u.firsts c.if-first_with-u.firsts c.loop-u.invariant
          (ne_eqb first c.loop-u.u (λ same. w.if-first_with-u.false (is ∙ same))) w.firsts-is
    ]
