use Rattle.std.proofs.Common.{◌++◌, ◌∙◌, ◌∷◌, [], List, length, ap, arith}
use Rattle.aeth_base.{specs.declared.ids.LinkId.LinkId, proofs.TestLemmas.true_from_IsTrue}
use Rattle.aeth_paths.proofs.pairs.alone.Goals as goal

-- There is room for a link.
pub returns : goal.returns
returns c =
    let size = ap (λ (p : List LinkId). length p) c.empty-path.ensures in
    let room = true_from_IsTrue c.push.result (c.push.ensures.room.1 (omega (arith, size))) in
    let pushed = rw room at c.push.ensures.pushed in
    pushed ∙ ap (λ (p : List LinkId). p ++ c.args.link ∷ []) c.empty-path.ensures
