use Rattle.std.proofs.Common.{◌≡◌, ◌⊎◌, ◌∙◌, true, List, Bool, subst, sym, inl, inr, arith}
use Rattle.std.proofs.lemmas.Bool.{false≢true}
use Rattle.aeth_app.specs.App.{is_smooth}
use Rattle.aeth_group.proofs.MarkLemmas.{length-before}
use Rattle.aeth_group.proofs.PassLemmas.{Pairing, pairing-end, pairing-mark, pairing-row}
use Rattle.aeth_group.proofs.PassLemmas.{pairing-skip, pairing-start}
use Rattle.aeth_group.proofs.closing.pairs_of.Goals.{else-u-v+else-smooth, then-u-v}
use Rattle.aeth_group.proofs.closing.pairs_of.Goals.{then-u-v-via-else-u-v+then-smooth}
use Rattle.aeth_group.proofs.closing.pairs_of.Goals.{then-u-v-via-then-u-v}
use Rattle.aeth_group.proofs.closing.pairs_of.Goals as goal

-- No pair yet.
pub loop-u-init : goal.loop-u-init
loop-u-init c =
    subst (λ (marks : List Bool). Pairing c.args.app.now.uses marks 0 0)
    (sym c.no_marks-marks.ensures) (pairing-start c.args.app.now.uses)

-- One more pair.
pub loop-v-preserved : goal.loop-v-preserved
loop-v-preserved c =
    let uses = c.args.app.now.uses in
    let u = c.loop-u.u in
    let v = c.loop-v.v in
    elim c.if-u-v.branch [
      | then-u-v w ↦
          let joined : (u ≡ v) ⊎ (is_smooth uses u v ≡ true) = elim w.then-u-v.branch [
            | then-u-v-via-then-u-v x ↦ inl x.if-u-v.true
            | then-u-v-via-else-u-v+then-smooth x ↦ inr (sym x.smooth.ensures ∙ x.if-smooth.true)
          ] in
          rw (w.marks-is, w.mark.ensures)
          (pairing-mark uses c.loop-v.marks u v c.loop-v.invariant
          (length-before c.loop-v.marks w.mark.new.marks u v w.mark.ensures w.mark.array_long)
          (omega arith) (omega arith)
          (record { first = omega arith; second = omega arith; joined = joined }))
      | else-u-v+else-smooth w ↦ rw w.marks-is
          (pairing-skip uses c.loop-v.marks u v c.loop-v.invariant (λ pair. elim pair.joined [
            | inl same ↦ w.if-u-v.false same
            | inr smooth ↦ false≢true (sym w.if-smooth.false ∙ w.smooth.ensures ∙ smooth)
          ]))
    ]

-- One more row.
pub loop-u-preserved : goal.loop-u-preserved
loop-u-preserved c =
    let uses = c.uses-v-end.ensures.uses in
    pairing-row c.args.app.now.uses c.loop-v.marks c.loop-u.u c.loop-v.v c.loop-v.invariant
    (omega arith)

-- All pairs.
pub returns-clause-each : goal.returns-clause-each
returns-clause-each c =
    let uses = c.uses-u-end.ensures.uses in
    pairing-end c.args.app.now.uses c.loop-u.marks c.loop-u.u c.loop-u.invariant (omega arith)
