use Rattle.std.proofs.Common.{◌∙◌, ◌++◌, ◌∷◌, [], Bool, sym, ap, eqb, ℕ, slice_get, eq-eqb, ne_eqb}
use Rattle.aeth_group.specs.Members.{group_in}
use Rattle.aeth_group.proofs.RowLemmas.{range-fails, range-passes}
use Rattle.aeth_group.proofs.rows.row_of.Goals.{else-group_in-group, then-group_in-group+in_ok-push}
use Rattle.aeth_group.proofs.rows.row_of.Goals as goal

-- One more use case.
pub loop-u-preserved : goal.loop-u-preserved
loop-u-preserved c =
    let u = c.loop-u.u in
    let test : ℕ → Bool = λ v. eqb (group_in (slice_get c.args.uses.now v)) c.args.group in
    elim c.if-group_in-group.branch [
      | then-group_in-group+in_ok-push w ↦
          ap (λ (v : _). v.items) w.row-is ∙ w.in_ok-push.ensures.items
          ∙ ap (λ us. us ++ u ∷ []) c.loop-u.invariant
          ∙ sym (range-passes test u (eq-eqb _ _ (sym c.group_in.ensures
          ∙ w.if-group_in-group.true)))
      | else-group_in-group w ↦
          ap (λ (v : _). v.items) w.row-is ∙ c.loop-u.invariant
          ∙ sym (range-fails test u (ne_eqb _ _ (λ same.
          w.if-group_in-group.false (c.group_in.ensures ∙ same))))
    ]
