use Rattle.std.proofs.Common.{◌∙◌, ◌/◌, ◌%◌, ◌+◌, ℕ, List, ap, arith}
use Rattle.std.proofs.lemmas.{Nat.Bits.bit_at_ones, List.get_or-replicate}
use Rattle.std.specs.Int.{bit_at}
use Rattle.aeth_base.specs.Marks.{bit_of}
use Rattle.aeth_base.proofs.marks.Marks.all.Goals as goal

-- Each mask has all bits.
pub returns-clause-marked : goal.returns-clause-marked
returns-clause-marked c =
    λ number within.
    let items = c.in_ok-vec.ensures.items_if_clones_equal (λ y same. same) in
    let size = c.in_ok-vec.ensures.len in
    let own = c.in_ok-vec.field-0.ok.0 in
    ap (λ (masks : List ℕ). bit_of masks number) items
    ∙ ap (λ n. bit_at n (number % 64))
    (get_or-replicate (c.args.last / 64 + 1) (number / 64) 18446744073709551615 0 (omega arith))
    ∙ bit_at_ones 64 (number % 64) (omega arith)
