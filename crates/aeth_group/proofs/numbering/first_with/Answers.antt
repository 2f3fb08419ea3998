use Rattle.std.proofs.Common.{◌∙◌, sym, arith}
use Rattle.aeth_group.{specs.Marks.marked, proofs.NumberingLemmas.first_with_is}
use Rattle.aeth_group.proofs.numbering.first_with.Goals as goal

-- One that is marked.
pub returns-then-marked-clause-first : goal.returns-then-marked-clause-first
returns-then-marked-clause-first c =
    sym (first_with_is (marked c.args.marks.now) c.args.uses c.args.u c.loop-v.v (omega arith)
    c.loop-v.invariant (λ _. sym c.marked.ensures ∙ c.if-marked.true))

-- None is marked.
pub returns-clause-first : goal.returns-clause-first
returns-clause-first c =
    sym (first_with_is (marked c.args.marks.now) c.args.uses c.args.u c.args.uses (omega arith)
    (λ k low. c.loop-v.invariant k (omega arith)) (λ low. absurd (omega arith)))
