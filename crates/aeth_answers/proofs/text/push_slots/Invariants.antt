use Rattle.std.proofs.Common.{◌≡◌, ◌++◌, ◌∷◌}
use Rattle.std.specs.{Fmt.decimal, List.flat_map}
use Rattle.aeth_text.specs.Limits.{comma}
use Rattle.aeth_answers.proofs.text.push_slots.Given as goal

abbrev pub invariant-loop-slot : goal.invariant-loop-slot
invariant-loop-slot l =
    l.text.items ≡ l.fn.text.items ++ decimal l.first ++ flat_map (λ n. comma ∷ decimal n) l.yielded
