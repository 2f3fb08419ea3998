use Rattle.std.proofs.Common.{ℕ, List, ◌≡◌, ◌+◌, ◌∙◌, ap, arith, set, suc}
use Rattle.aeth_components.specs.Counting.{written_over}
use Rattle.aeth_components.proofs.counting.note.Goals as goal

-- One place more is written.
pub loop-place-preserved : goal.loop-place-preserved
loop-place-preserved c =
    let place = c.loop-place.place in
    ap (λ (list : List ℕ). set list (c.args.from + place) c.args.cycle) c.loop-place.invariant
    ∙ ap (λ n. written_over n c.args.from c.args.cycle c.args.landings.now)
    (let same : suc place ≡ place + 1 = omega arith in same)
