use Rattle.std.proofs.Common.{◌≡◌, ◌<◌, ◌∙◌, Bool, List, Some, ap, arith, get_or, length, not, sym}
use Rattle.std.proofs.Common.{slice_get}
use Rattle.std.proofs.lemmas.Option.{slice_get-get_or}
use Rattle.aeth_base.specs.declared.ids.LinkId.{LinkId}
use Rattle.aeth_explain.specs.{Cuts.is_cut, Masks.TryJudgeData}
use Rattle.aeth_explain.proofs.PositionLemmas.{passes-none, position-at}
use Rattle.aeth_explain.proofs.try_judge.TryJudge.first_no_cut.Goals as goal

-- This one is no cut.
pub returns-then-not-is_cut-clause-place : goal.returns-then-not-is_cut-clause-place
returns-then-not-is_cut-clause-place c =
    let judge : TryJudgeData = c.args.self.now in
    let cuts : List (List LinkId) = c.args.cuts.now in
    let no_cut : List LinkId → Bool =
    λ cut. not (is_cut judge.chip judge.groups judge.trial cut) in
    let low : c.loop-i.i < length cuts = omega
    (arith, c.loop-i-test.true, c.len-i-end.ensures.len) in
    let cut = c.index-list-i.result in
    let at : slice_get cuts c.loop-i.i ≡ Some cut =
    slice_get-get_or cuts c.loop-i.i cut low
    ∙ ap Some (sym (c.index-list-i.is ∙ ap (λ ps. get_or ps c.loop-i.i cut)
    c.list-list.ensures.list)) in
    sym (position-at no_cut cuts c.loop-i.i cut at
    (λ k less. ap not (c.loop-i.invariant k cut less))
    (ap not (sym c.is_cut.ensures ∙ c.if-not-is_cut.true)))

-- All are cuts.
pub returns-clause-place : goal.returns-clause-place
returns-clause-place c =
    let judge : TryJudgeData = c.args.self.now in
    let cuts : List (List LinkId) = c.args.cuts.now in
    let no_cut : List LinkId → Bool =
    λ cut. not (is_cut judge.chip judge.groups judge.trial cut) in
    sym (passes-none no_cut cuts (λ x (k, low, at).
    ap no_cut (sym at) ∙ ap not (c.loop-i.invariant k x
    (omega (arith, low, c.loop-i-test.false, c.len-i-end.ensures.len)))))
