use Rattle.std.proofs.Common.{◌∙◌, ◌≤◌, ◌⊎◌, ap, arith, inl, inr, length, sym}
use Rattle.std.proofs.lemmas.Bool.{cases_lt}
use Rattle.std.specs.Ordering.{nat_cmp}
use Rattle.aeth_base.specs.declared.ids.LinkId.{LinkId}
use Rattle.aeth_explain.proofs.CompareLemmas.{compared-alike, compared-end, compared-unlike}
use Rattle.aeth_explain.proofs.order.dictionary.Goals as goal

-- Two links differ.
pub returns-then-link-its : goal.returns-then-link-its
returns-then-link-its c =
    c.cmp.ensures
    ∙ sym (compared-unlike (λ (link : LinkId). link.0) c.args.path.now c.args.other.now c.loop-i.i
    c.link-link.result c.link-its.result c.link-link.ensures c.link-its.ensures c.if-link-its.true)
    ∙ c.loop-i.invariant

-- Two are one.
pub loop-i-preserved : goal.loop-i-preserved
loop-i-preserved c =
    sym (compared-alike (λ (link : LinkId). link.0) c.args.path.now c.args.other.now c.loop-i.i
    c.link-link.result c.link-its.result c.link-link.ensures c.link-its.ensures c.if-link-its.false)
    ∙ c.loop-i.invariant

-- All links of one list were compared.
pub returns : goal.returns
returns c =
    let path = c.args.path.now in
    let other = c.args.other.now in
    let m = c.len.ensures.len in
    let n = c.len-2.ensures.len in
    let most = c.min-i-end.ensures in
    let past = c.loop-i-test.false in
    let low = c.loop-i.auto.i-end in
    let ends : (length path ≤ c.loop-i.i) ⊎ (length other ≤ c.loop-i.i) =
    elim (cases_lt (length path) (length other)) [
      | inl less ↦ inl (omega (arith, m, n, most, past, less))
      | inr more ↦ inr (omega (arith, m, n, most, past, more))
    ] in
    c.cmp-2.ensures
    ∙ ap (λ k. nat_cmp k c.len-4.result) c.len-3.ensures.len
    ∙ ap (nat_cmp (length path)) c.len-4.ensures.len
    ∙ sym (compared-end (λ (link : LinkId). link.0) path other c.loop-i.i
    (omega (arith, m, n, most, low)) (omega (arith, m, n, most, low)) ends)
    ∙ c.loop-i.invariant
