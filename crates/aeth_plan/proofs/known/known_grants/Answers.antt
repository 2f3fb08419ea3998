use Rattle.std.proofs.Common.{◌∙◌, ◌+◌, ◌++◌, ◌∷◌, [], ℕ, List, ap, arith, drop, sym}
use Rattle.std.proofs.lemmas.List.{drop_more}
use Rattle.aeth_group.specs.declared.grant.Grant.{Grant}
use Rattle.aeth_plan.specs.{Lines.GrantWords, Rules.each, Rules.known_grant}
use Rattle.aeth_plan.proofs.Fronts.{front_more}
use Rattle.aeth_document.proofs.Fronts.{front_none, with_front}
use Rattle.aeth_plan.proofs.known.known_grants.Goals as goal

-- No line was looked at.
pub loop-text-init : goal.loop-text-init
loop-text-init c =
    let f = known_grant c.args.chip.now c.args.app.now c.args.groups.now in
    let all = each f c.args.first c.args.texts.now in
    record {
      grants = ap (λ (gs : List Grant). with_front gs all) c.in_ok-grants.ensures.items
          ∙ front_none all;
      last = tt;
    }

-- The connection that was found last is the application's.
pub known_grant-requires : goal.known_grant-requires
known_grant-requires c = c.loop-text.invariant.last

-- One more line gave its grant.
pub loop-text-preserved : goal.loop-text-preserved
loop-text-preserved c =
    let f = known_grant c.args.chip.now c.args.app.now c.args.groups.now in
    let texts : List GrantWords = c.args.texts.now in
    let i = c.loop-text.text-index in
    let rest = drop (i + 1) texts in
    let front : List Grant = c.loop-text.grants.items in
    let one : Grant = c.in_ok-known_grant.field-0 in
    record {
      grants = ap (λ (gs : List Grant). with_front gs (each f c.line_after-line.result rest))
          c.in_ok-push.ensures.items
          ∙ ap (λ (n : ℕ). with_front (front ++ one ∷ []) (each f n rest)) c.line_after-line.ensures
          ∙ front_more f c.loop-text.line c.text-item.result rest front one
          c.in_ok-known_grant.ensures.grant
          ∙ ap (λ (xs : List GrantWords). with_front front (each f c.loop-text.line xs))
          (sym (drop_more texts i c.text-item.result
          (omega (arith, c.loop-text-test.true, c.loop-text.auto.text-index-end))
          ∙ ap (λ (x : GrantWords). x ∷ rest) (sym c.text-item.is)))
          ∙ c.loop-text.invariant.grants;
      last = c.known_grant.ensures.last;
    }
