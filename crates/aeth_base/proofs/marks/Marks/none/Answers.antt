use Rattle.std.proofs.Common.{◌∙◌, ◌/◌, ◌+◌, ℕ, List, ap}
use Rattle.aeth_base.{proofs.MarkLemmas.bit_of-zeros, specs.Marks.bit_of}
use Rattle.aeth_base.proofs.marks.Marks.none.Goals as goal

-- No mask has a bit.
pub returns-clause-unmarked : goal.returns-clause-unmarked
returns-clause-unmarked c =
    λ number.
    ap (λ (masks : List ℕ). bit_of masks number)
    (c.in_ok-vec.ensures.items_if_clones_equal (λ y same. same))
    ∙ bit_of-zeros (c.args.last / 64 + 1) number
