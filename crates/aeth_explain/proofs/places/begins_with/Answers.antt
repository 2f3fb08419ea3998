use Rattle.std.proofs.Common.{◌∙◌, ◌+◌, ◌&&◌, ap, arith, drop, sym, eq-eqb, ne_eqb}
use Rattle.aeth_explain.specs.Cuts.{begins_with}
use Rattle.aeth_explain.proofs.OpenLemmas.{begins-long, begins-step}
use Rattle.aeth_explain.proofs.places.begins_with.Goals as goal

-- The list is longer.
pub returns-then-len : goal.returns-then-len
returns-then-len c =
    sym (begins-long c.args.front.now c.args.path.now
    (omega (arith, c.if-len.true, c.len.ensures.len, c.len-2.ensures.len)))

-- Two links differ.
pub returns-then-link : goal.returns-then-link
returns-then-link c =
    let front = c.args.front.now in
    let path = c.args.path.now in
    let i = c.loop-i.i in
    let rest = begins_with (drop (i + 1) front) (drop (i + 1) path) in
    sym (begins-step front path i c.link.result c.link-in-loop-i.result c.link.ensures
    c.link-in-loop-i.ensures
    ∙ ap (λ b. b && rest) (ne_eqb c.link.result.0 c.link-in-loop-i.result.0 c.if-link.true))
    ∙ c.loop-i.invariant

-- Two links are one.
pub loop-i-preserved : goal.loop-i-preserved
loop-i-preserved c =
    let front = c.args.front.now in
    let path = c.args.path.now in
    let i = c.loop-i.i in
    let rest = begins_with (drop (i + 1) front) (drop (i + 1) path) in
    sym (begins-step front path i c.link.result c.link-in-loop-i.result c.link.ensures
    c.link-in-loop-i.ensures
    ∙ ap (λ b. b && rest) (eq-eqb c.link.result.0 c.link-in-loop-i.result.0 c.if-link.false))
    ∙ c.loop-i.invariant
