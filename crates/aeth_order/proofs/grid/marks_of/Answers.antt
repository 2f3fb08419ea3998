use Rattle.std.proofs.Common.{◌∙◌, ◌++◌, ◌∷◌, [], Bool, List, map, sym, ap, arith}
use Rattle.std.proofs.lemmas.List.FromFn.{map-range_with_len_more}
use Rattle.std.specs.List.{range_with_len}
use Rattle.aeth_base.specs.declared.ids.Unit.{Unit as GroupUnit}
use Rattle.aeth_group.specs.Members.{is_member}
use Rattle.aeth_order.specs.Grid.{is_unit_at}
use Rattle.aeth_order.proofs.grid.marks_of.Goals as goal

-- One more place.
pub loop-place-preserved : goal.loop-place-preserved
loop-place-preserved c =
    let p = c.loop-place.place in
    let groups = c.args.groups.now in
    c.in_ok-push.ensures.items
    ∙ ap (λ (xs : List Bool). xs ++ c.member.result ∷ []) c.loop-place.invariant
    ∙ ap (λ (x : Bool). map (is_unit_at groups) (range_with_len 0 p) ++ x ∷ [])
    (c.member.ensures
    ∙ ap (λ (u : GroupUnit). is_member groups u.group.0 u.conn.0) c.unit_at-unit.ensures)
    ∙ sym (map-range_with_len_more (is_unit_at groups) 0 p p (omega arith))

-- All places were seen.
pub returns : goal.returns
returns c =
    let end = c.loop-place.auto.place-end in
    let end' = c.loop-place-test.false in
    let all = c.requires.some in
    c.loop-place.invariant
    ∙ ap (λ n. map (is_unit_at c.args.groups.now) (range_with_len 0 n)) (omega arith)
