use Rattle.std.proofs.{Common.◌∙◌, Common.length, Common.sym, Common.arith, lemmas.Bool.eqb-false}
use Rattle.aeth_base.specs.declared.ids.Side.TheVariants.{Fwd}
use Rattle.aeth_chain.proofs.ShapeLemmas.{behind, behind-count, latency-next}
use Rattle.aeth_chain.proofs.bound.+latency_along.Goals as goal

-- One channel before others.
pub returns-clause-gives : goal.returns-clause-gives
returns-clause-gives t c =
    let more = eqb-false (length (behind c.args.items.now)) 0
    (sym c.is_empty.ensures ∙ c.if-is_empty.false) in
    let size = behind-count c.args.items.now in
    let next = latency-next c.args.rate c.args.items.now c.args.shapes.now
    (record { channel = record { conn = record { 0 = 0 }; side = Fwd }; work = 0 })
    c.shape-item.result c.shape-item.is (omega (arith, more, size)) c.requires.beside in
    omega (
      arith,
      c.from-latency.ensures,
      c.latency.ensures.latency,
      c.passing_latency.ensures.gives,
      c.latency_along.ensures.gives,
      next,
    )
