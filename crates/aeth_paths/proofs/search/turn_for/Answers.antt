use Rattle.std.proofs.Common.{◌∙◌, ◌++◌, ◌∷◌, [], sym, ap}
use Rattle.aeth_base.proofs.TestLemmas.{IsTrue_from_true}
use Rattle.aeth_paths.specs.{Search.Field, Search.by_turn, Search.completions, Search.first_from}
use Rattle.aeth_paths.specs.{Walk.field_of, Walk.path_in, Walk.priced, declared.search.Turn.Turn}
use Rattle.aeth_paths.proofs.StepLemmas.{link-below}
use Rattle.aeth_paths.proofs.search.turn_for.Goals as goal

-- The link is one of the chip.
pub turn_at-requires-clause-link : goal.turn_at-requires-clause-link
turn_at-requires-clause-link c =
    link-below c.args.task.now.chip.now.links c.args.prefix.now.end c.args.link c.requires.link

-- No path goes on over it.
pub returns-in-Away : goal.returns-in-Away
returns-in-Away c left =
    let f : Field = field_of c.args.task.now c.args.goal.now in
    let path = c.args.prefix.now.path in
    let link = c.args.link in
    c.requires.best
    ∙ ap (λ (t : Turn). priced f.cost (first_from f (path_in c.args.best.now)
    (by_turn t ((path ++ link ∷ []) ∷ []) (completions f left (f.to link) (path ++ link ∷ [])))))
    c.in-Away.ensures

-- No path over it changes what is best.
pub returns-then-is_vain : goal.returns-then-is_vain
returns-then-is_vain c left =
    let f : Field = field_of c.args.task.now c.args.goal.now in
    let path = c.args.prefix.now.path in
    let link = c.args.link in
    c.requires.best
    ∙ ap (priced f.cost) (sym (c.is_vain.ensures (IsTrue_from_true _ c.if-is_vain.true) left))
    ∙ ap (λ (t : Turn). priced f.cost (first_from f (path_in c.args.best.now)
    (by_turn t ((path ++ link ∷ []) ∷ []) (completions f left (f.to link) (path ++ link ∷ [])))))
    c.in-Goes.ensures
