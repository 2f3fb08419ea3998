-- Walks over several lists, one after the other.
use Rattle.std.proofs.Common.{◌≡◌, ◌≤◌, ◌-◌, ◌++◌, ◌∙◌, ℕ, List, [], Option, ap, arith, drop}
use Rattle.std.proofs.Common.{length, map}
use Rattle.std.proofs.lemmas.List.{at_drop_all}
use Rattle.std.specs.List.{range_with_len}
use Rattle.aeth_base.specs.declared.shown.Shown.{Shown}
use Rattle.aeth_document.specs.Walks.{first_broken, found_by, walked}
use Rattle.aeth_document.specs.declared.walk.Walk.{Walk, TheVariants.At}
use Rattle.aeth_document.proofs.WalkLemmas.{found_by-walked, walked-append}

-- A walk over four lists is the walk over the four in one.
pub walked-four : (walk : Walk) (first second third fourth : List (Option Shown))
    → walked (walked (walked (walked walk first) second) third) fourth
    ≡ walked walk (((first ++ second) ++ third) ++ fourth)
walked-four walk first second third fourth =
    rw (
      walked-append walk first second,
      walked-append walk (first ++ second) third,
    ) (walked-append walk ((first ++ second) ++ third) fourth)

-- What it finds is the first broken check of the four.
pub found-four : (place : ℕ) (first second third fourth : List (Option Shown))
    → found_by (walked (walked (walked (walked (At place) first) second) third) fourth)
    ≡ first_broken place (((first ++ second) ++ third) ++ fourth)
found-four place first second third fourth =
    rw (walked-four (At place) first second third fourth)
    (found_by-walked place (((first ++ second) ++ third) ++ fourth))

-- The same for five lists.
pub found-five : (place : ℕ) (first second third fourth fifth : List (Option Shown))
    → found_by (walked (walked (walked (walked (walked (At place) first) second) third) fourth)
    fifth) ≡ first_broken place ((((first ++ second) ++ third) ++ fourth) ++ fifth)
found-five place first second third fourth fifth =
    rw (
      walked-four (At place) first second third fourth,
      walked-append (At place) (((first ++ second) ++ third) ++ fourth) fifth,
    ) (found_by-walked place ((((first ++ second) ++ third) ++ fourth) ++ fifth))

-- A walk over all of a list finds the first broken check of the whole.
pub found-list : {X : Type 0} (checks : List X → List (Option Shown)) (xs : List X) (i place : ℕ)
    (walk : Walk) → checks [] ≡ [] → length xs ≤ i
    → walked walk (checks (drop i xs)) ≡ walked (At place) (checks xs)
    → found_by walk ≡ first_broken place (checks xs)
unfolding walked
found-list checks xs i place walk none past same =
    let end : walked walk [] ≡ walked (At place) (checks xs) =
    rw (at_drop_all checks xs i past, none) at same in
    ap found_by end ∙ found_by-walked place (checks xs)

-- The same for the numbers below a count.
pub found-range : (check : ℕ → Option Shown) (count i place : ℕ) (walk : Walk) → count ≤ i
    → walked walk (map check (range_with_len i (count - i)))
    ≡ walked (At place) (map check (range_with_len 0 count))
    → found_by walk ≡ first_broken place (map check (range_with_len 0 count))
unfolding walked
found-range check count i place walk past same =
    let none : count - i ≡ 0 = omega arith in
    let end : walked walk [] ≡ walked (At place) (map check (range_with_len 0 count)) =
    rw none at same in
    ap found_by end ∙ found_by-walked place (map check (range_with_len 0 count))
