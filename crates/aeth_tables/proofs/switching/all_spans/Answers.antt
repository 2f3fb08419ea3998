use Rattle.std.proofs.Common.{◌∙◌, ◌++◌, sym, ap}
use Rattle.aeth_tables.{specs.Changes.spans_in, proofs.TextLaws.flat_map-more}
use Rattle.aeth_tables.proofs.switching.all_spans.Goals as goal

-- One more use case.
pub loop-u-preserved : goal.loop-u-preserved
loop-u-preserved c =
    let spans = spans_in c.args.groups.now c.args.all.now in
    c.in_ok-push_spans.ensures ∙ ap (λ xs. xs ++ spans c.loop-u.u) c.loop-u.invariant
    ∙ sym (flat_map-more spans c.loop-u.u)
