use Rattle.std.proofs.Common.{◌≡◌, ◌∙◌, ◌+◌, ◌&&◌, Some, ap, drop, sym, slice_get}
use Rattle.aeth_explain.specs.{Cuts.are_joined, Masks.TryJudgeData}
use Rattle.aeth_explain.proofs.VerdictLemmas.{joined-step}
use Rattle.aeth_explain.proofs.try_judge.TryJudge.are_joined.Goals as goal

-- This link doesn't begin where the one before it ends.
pub returns-then-not-begins_at : goal.returns-then-not-begins_at
returns-then-not-begins_at c =
    let links = c.args.self.now.chip.links in
    let path = c.args.path.now in
    let is : slice_get links c.link.result.0 ≡ Some c.link-link.result =
    ap (λ (j : TryJudgeData). slice_get j.chip.links c.link.result.0) (sym c.self.view_is)
    ∙ c.link-link.ensures.link in
    sym (joined-step links c.loop-i.at path c.loop-i.i c.link.result c.link-link.result
    c.link.ensures
    is ∙ ap (λ b. b && are_joined links c.link-link.result.to (drop (c.loop-i.i + 1) path))
    (sym c.begins_at.ensures ∙ c.if-not-begins_at.true)) ∙ c.loop-i.invariant

-- This one does.
pub loop-i-preserved : goal.loop-i-preserved
loop-i-preserved c =
    let links = c.args.self.now.chip.links in
    let path = c.args.path.now in
    let is : slice_get links c.link.result.0 ≡ Some c.link-link.result =
    ap (λ (j : TryJudgeData). slice_get j.chip.links c.link.result.0) (sym c.self.view_is)
    ∙ c.link-link.ensures.link in
    sym (joined-step links c.loop-i.at path c.loop-i.i c.link.result c.link-link.result
    c.link.ensures
    is ∙ ap (λ b. b && are_joined links c.link-link.result.to (drop (c.loop-i.i + 1) path))
    (sym c.begins_at.ensures ∙ c.if-not-begins_at.false)) ∙ c.loop-i.invariant
