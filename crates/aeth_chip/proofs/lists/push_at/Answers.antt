use Rattle.std.proofs.Common.{◌≡◌, ◌∙◌, ◌++◌, ◌∷◌, List, [], ap, length, sym, arith, length-set}
use Rattle.aeth_base.specs.declared.ids.LinkId.{LinkId}
use Rattle.aeth_base.proofs.Lists.{slice_get-slice_set_other, slice_get-slice_set_same}
use Rattle.aeth_chip.{specs.Index.list_at, specs.Index.list_in, proofs.ReadLemmas.read_at}
use Rattle.aeth_chip.proofs.lists.push_at.Goals as goal

pub returns-clause-size : goal.returns-clause-size
returns-clause-size c = length-set c.args.lists.now.items c.args.place c.push.new.self

-- The list at the place has one link more.
pub returns-clause-here : goal.returns-clause-here
returns-clause-here c =
    let lists = c.args.lists.now.items in
    let list = c.index_mut-list.result.now in
    let read = read_at lists c.args.place list c.requires c.index_mut-list.ensures.value in
    ap list_in (slice_get-slice_set_same lists c.args.place c.push.new.self c.requires)
    ∙ c.in_ok-push.ensures.items
    ∙ ap (λ (xs : List LinkId). xs ++ c.args.link ∷ []) (sym (ap list_in read))

pub returns-clause-others : goal.returns-clause-others
returns-clause-others c = λ other differs.
    ap list_in (slice_get-slice_set_other c.args.lists.now.items c.args.place other c.push.new.self
    differs)

-- The link stands at the end of the list before.
pub returns-clause-end : goal.returns-clause-end
returns-clause-end c =
    let lists = c.args.lists.now.items in
    let list = c.index_mut-list.result.now in
    let read = read_at lists c.args.place list c.requires c.index_mut-list.ensures.value in
    let same : length (list_at lists c.args.place) ≡ length list.items =
    ap length (ap list_in read) in
    let len = c.len-end.ensures in
    let ok = list.ok in
    omega arith
