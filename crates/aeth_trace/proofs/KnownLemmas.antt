-- Rows that name things that are known.
use Rattle.std.proofs.Common.{◌≡◌, ◌<◌, ◌+◌, ℕ, List, [], ◌∷◌, map, arith, All, Ok}
use Rattle.std.proofs.lemmas.{Bool.Decides.nat_tests, List.Elements.All-cons, List.Elements.All-nil}
use Rattle.aeth_trace.specs.Rules.{are_known}

-- Where the rule on names is kept, each row names one of so many things.
pub are_known-All : {A : Type 0} (names : A → ℕ) (field count row : ℕ) (rows : List A)
    (kept : Unit {0}) → are_known field count row (map names rows) ≡ Ok kept
    → All (λ one. names one < count) rows
are_known-All names field count row [] kept is = All-nil (λ one. names one < count)
are_known-All names field count row (one ∷ rows) kept is =
    let here : names one < count = grind (arith, nat_tests) in
    let later : are_known field count (row + 1) (map names rows) ≡ Ok kept =
    grind (arith, nat_tests) in
    All-cons (λ one. names one < count) one rows here
    (are_known-All names field count (row + 1) rows kept later)
