use Rattle.std.proofs.Common.{ℕ, ◌∙◌, ◌++◌, ◌∷◌, [], List, map, sym, ap, arith}
use Rattle.std.proofs.lemmas.List.FromFn.{map-range_with_len_more}
use Rattle.std.specs.List.{range_with_len}
use Rattle.aeth_order.specs.{Grid.unit_at, Units.keys_of, declared.keys.UnitKeys.UnitKeys}
use Rattle.aeth_order.proofs.grid.grid_of.Goals as goal

-- One more place.
pub loop-place-preserved : goal.loop-place-preserved
loop-place-preserved c =
    let p = c.loop-place.place in
    let keys : ℕ → UnitKeys = λ p. keys_of c.args.app.now (unit_at p) in
    c.in_ok-push.ensures.items
    ∙ ap (λ (xs : List UnitKeys). xs ++ c.of.result ∷ []) c.loop-place.invariant
    ∙ ap (λ (x : UnitKeys). map keys (range_with_len 0 p) ++ x ∷ [])
    (c.of.ensures ∙ ap (keys_of c.args.app.now) c.unit_at.ensures)
    ∙ sym (map-range_with_len_more keys 0 p p (omega arith))

-- All places were seen.
pub returns : goal.returns
returns c =
    let end = c.loop-place.auto.place-end in
    let end' = c.loop-place-test.false in
    let all = c.connections-place-end.ensures.connections in
    c.loop-place.invariant
    ∙ ap (λ n. map (λ p. keys_of c.args.app.now (unit_at p)) (range_with_len 0 n)) (omega arith)
