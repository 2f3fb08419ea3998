use Rattle.std.proofs.Common.{◌∙◌, ◌+◌, ◌++◌, ◌∷◌, ℕ, List, ap, append_assoc, arith, drop, map, sym}
use Rattle.std.proofs.lemmas.List.{drop_more}
use Rattle.aeth_group.specs.declared.grant.Grant.{Grant}
use Rattle.aeth_plan.specs.{PlanText.grant_words, Spelling.grant_line}
use Rattle.aeth_text.specs.Spelling.{text_of_lines}
use Rattle.aeth_plan.proofs.printing.push_grants.Goals as goal

-- One more line was printed.
pub loop-grant-preserved : goal.loop-grant-preserved
loop-grant-preserved c =
    let grants : List Grant = c.args.grants.now in
    let i = c.loop-grant.grant-index in
    let out : List ℕ = c.loop-grant.out.items in
    let lines : List Grant → List ℕ =
    λ xs. text_of_lines (map grant_line (map (grant_words c.args.app.now) xs)) in
    ap (λ (o : List ℕ). o ++ lines (drop (i + 1) grants)) c.in_ok-push_grant.ensures
    ∙ append_assoc out _ (lines (drop (i + 1) grants))
    ∙ ap (λ (xs : List Grant). out ++ lines xs) (sym (drop_more grants i c.grant-item.result
    (omega (arith, c.loop-grant-test.true, c.loop-grant.auto.grant-index-end))
    ∙ ap (λ (x : Grant). x ∷ drop (i + 1) grants) (sym c.grant-item.is)))
    ∙ c.loop-grant.invariant
