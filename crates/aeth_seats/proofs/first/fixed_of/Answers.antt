use Rattle.std.proofs.Common.{◌∙◌, ◌++◌, ◌∷◌, [], length, map, take, sym, ap, arith, length-take}
use Rattle.std.proofs.Common.{take_all}
use Rattle.std.proofs.lemmas.List.{length-map, map-append, take_more}
use Rattle.std.proofs.lemmas.Option.{get_or_from_slice_get, slice_get_within}
use Rattle.aeth_app.specs.declared.connection.Core.{Core}
use Rattle.aeth_seats.proofs.first.fixed_of.Goals as goal

-- One more core.
pub loop-core-preserved : goal.loop-core-preserved
loop-core-preserved c =
    let cores = c.args.app.now.cores in
    let core = c.core.result in
    let next = take_more cores c.loop-core.core core
    (slice_get_within cores c.loop-core.core core c.core.ensures)
    ∙ ap (λ (x : Core). take c.loop-core.core cores ++ x ∷ [])
    (get_or_from_slice_get cores c.loop-core.core core core c.core.ensures) in
    c.in_ok-push.ensures.items
    ∙ ap (λ xs. xs ++ core.fixed ∷ []) c.loop-core.invariant
    ∙ sym (ap (map (λ (x : Core). x.fixed)) next
    ∙ map-append (λ (x : Core). x.fixed) (take c.loop-core.core cores) (core ∷ []))

-- All cores were seen.
pub returns-clause-fixed : goal.returns-clause-fixed
returns-clause-fixed c =
    let cores = c.args.app.now.cores in
    c.loop-core.invariant
    ∙ ap (map (λ (core : Core). core.fixed)) (take_all c.loop-core.core cores
    (omega (arith, c.cores-core-end.ensures.cores)))

-- There are as many as cores.
pub returns-clause-few : goal.returns-clause-few
returns-clause-few c =
    let cores = c.args.app.now.cores in
    let size = ap length c.loop-core.invariant
    ∙ length-map (take c.loop-core.core cores) (λ (core : Core). core.fixed) in
    omega (
      arith,
      size,
      length-take c.loop-core.core cores,
      c.cores-core-end.ensures.cores,
      c.cores-core-end.ensures.most,
    )
