-- Laws of walks.
use Rattle.std.proofs.Common.{append_assoc, ◌≡◌, ◌≤◌, ◌<◌, ◌+◌, ◌++◌, ℕ, zero, suc, ℤ, pos, negsuc}
use Rattle.std.proofs.Common.{true, false, List, [], ◌∷◌, length, map, Option, Some, None, is_none}
use Rattle.std.proofs.Common.{refl, sym, ap, inl, inr, arith, position, append-nil}
use Rattle.std.proofs.lemmas.{Bool.cases_Bool, Cmp.nat_list_eq_equiv}
use Rattle.std.proofs.lemmas.{List.Quantifiers.position-Some, List.Sums.fold-append}
use Rattle.std.proofs.lemmas.{Map.Keys.IsDistinct-push, Option.option_and_then_some}
use Rattle.std.specs.List.{AllByRecursion, IsDistinct, filter_map, list_any, range_with_len}
use Rattle.std.specs.Str.{bytes_eq}
use Rattle.aeth_base.specs.Name.{is_name, name_of}
use Rattle.aeth_base.specs.declared.shown.{Broken.Broken, Shown.Shown}
use Rattle.aeth_document.specs.Walks.{first_broken, found_by, next_place, no_name, outside}
use Rattle.aeth_document.specs.Walks.{place_of, repeated, repeats, size_of, step, walked}
use Rattle.aeth_document.specs.declared.walk.Walk.{Walk, TheVariants.At, TheVariants.Stopped}

-- A walk over one list and then another is the walk over the two in one.
pub walked-append : (walk : Walk) (xs ys : List (Option Shown))
    → walked (walked walk xs) ys ≡ walked walk (xs ++ ys)
unfolding walked
walked-append walk xs ys = sym (fold-append step walk xs ys)

-- A walk that has stopped stays where it is.
pub walked-stopped : (broken : Broken) (checks : List (Option Shown))
    → walked (Stopped broken) checks ≡ Stopped broken
unfolding walked
walked-stopped broken [] = refl
walked-stopped broken (check ∷ checks) = walked-stopped broken checks

-- A walk after no more checks is as it was.
pub walked-nil : (walk : Walk) → walked walk [] ≡ walk
unfolding walked
walked-nil walk = refl

-- A walk goes on after a check only where it isn't broken.
pub goes_on-none : (walk : Walk) (check : Option Shown)
    → is_none (found_by (walked walk (check ∷ []))) ≡ true → check ≡ None
unfolding walked
goes_on-none walk None going = refl
goes_on-none (At place) (Some value) going = absurd (cc going)
goes_on-none (Stopped broken) (Some value) going = absurd (cc going)

-- Where a walk has stopped after a check, further checks don't change it.
pub walked-ended : (walk : Walk) (check : Option Shown) (checks : List (Option Shown))
    → is_none (found_by (walked walk (check ∷ []))) ≡ false
    → walked walk (check ∷ []) ≡ walked walk (check ∷ checks)
unfolding walked
walked-ended (At place) None checks ended = absurd (cc ended)
walked-ended (At place) (Some value) checks ended =
    sym (walked-stopped (record { place = place; value = value }) checks)
walked-ended (Stopped broken) check checks ended = sym (walked-stopped broken checks)

-- A walk that has stopped is as it was after any checks.
pub walked-done : (walk : Walk) (checks : List (Option Shown)) → is_none (found_by walk) ≡ false
    → walked walk checks ≡ walk
walked-done (At place) checks done = absurd (cc done)
walked-done (Stopped broken) checks done = walked-stopped broken checks

-- A walk finds the first broken check.
pub found_by-walked : (place : ℕ) (checks : List (Option Shown))
    → found_by (walked (At place) checks) ≡ first_broken place checks
unfolding walked
found_by-walked place [] = refl
found_by-walked place (None ∷ checks) = found_by-walked (next_place place) checks
found_by-walked place (Some value ∷ checks) =
    ap found_by (walked-stopped (record { place = place; value = value }) checks)

-- A walk that finds nothing in two lists finds nothing in the first.
pub first_broken-before : (place : ℕ) (xs ys : List (Option Shown))
    → first_broken place (xs ++ ys) ≡ None → first_broken place xs ≡ None
first_broken-before place [] ys none = refl
first_broken-before place (None ∷ xs) ys none = first_broken-before (next_place place) xs ys none
first_broken-before place (Some value ∷ xs) ys none = absurd (cc none)

-- A walk that finds nothing finds nothing in its first check.
pub first_broken-head : (place : ℕ) (check : Option Shown) (checks : List (Option Shown))
    → first_broken place (check ∷ checks) ≡ None → check ≡ None
first_broken-head place None checks none = refl
first_broken-head place (Some value) checks none = absurd (cc none)

-- A walk that finds nothing finds nothing after its first check.
pub first_broken-tail : (place : ℕ) (check : Option Shown) (checks : List (Option Shown))
    → first_broken place (check ∷ checks) ≡ None → first_broken (next_place place) checks ≡ None
first_broken-tail place None checks none = none
first_broken-tail place (Some value) checks none = absurd (cc none)

-- A walk that finds nothing finds nothing in any check.
pub first_broken-none : (place : ℕ) (checks : List (Option Shown))
    → first_broken place checks ≡ None → AllByRecursion (λ check. check ≡ None) checks
first_broken-none place [] none = tt
first_broken-none place (None ∷ checks) none =
    (refl, first_broken-none (next_place place) checks none)
first_broken-none place (Some value ∷ checks) none = absurd (cc none)

-- A walk finds nothing where no check is broken.
pub first_broken-all : (place : ℕ) (checks : List (Option Shown))
    → AllByRecursion (λ check. check ≡ None) checks → first_broken place checks ≡ None
first_broken-all place [] all = refl
first_broken-all place (None ∷ checks) all = first_broken-all (next_place place) checks all.1
first_broken-all place (Some value ∷ checks) all = absurd (cc all.0)

-- Whether a walk finds something doesn't depend on where it begins.
pub first_broken-elsewhere : (place other : ℕ) (checks : List (Option Shown))
    → first_broken place checks ≡ None → first_broken other checks ≡ None
first_broken-elsewhere place other checks none =
    first_broken-all other checks (first_broken-none place checks none)

-- A walk that finds nothing in two lists finds nothing in the second, wherever it begins.
pub first_broken-after : (place other : ℕ) (xs ys : List (Option Shown))
    → first_broken place (xs ++ ys) ≡ None → first_broken other ys ≡ None
first_broken-after place other [] ys none = first_broken-elsewhere place other ys none
first_broken-after place other (None ∷ xs) ys none =
    first_broken-after (next_place place) other xs ys none
first_broken-after place other (Some value ∷ xs) ys none = absurd (cc none)

-- A number that isn't out of its range lies within it.
pub outside-within : (low high n : ℕ) → outside low high (pos n) ≡ None → (low ≤ n) × (n ≤ high)
outside-within low high n none = grind arith

-- A number that isn't out of its range is a count within it.
pub outside-size : (low high : ℕ) (number : ℤ) → outside low high number ≡ None
    → (low ≤ size_of number) × (size_of number ≤ high)
outside-size low high (pos n) none = outside-within low high n none
outside-size low high (negsuc n) none = absurd (cc none)

-- A text that isn't refused is a name.
pub no_name-none : (text : List ℕ) → no_name text ≡ None → is_name text ≡ true
no_name-none text none =
    elim (cases_Bool (is_name text)) [
      | inl named ↦ named
      | inr other ↦ absurd (cc (rw other at none))
    ]

-- Texts none of which is refused are their own names.
pub filter_map-name_of : (place : ℕ) (texts : List (List ℕ))
    → first_broken place (map no_name texts) ≡ None → filter_map name_of texts ≡ texts
filter_map-name_of place [] none = refl
filter_map-name_of place (text ∷ texts) none =
    let checks = map no_name texts in
    let named = no_name-none text (first_broken-head place (no_name text) checks none) in
    let rest = first_broken-tail place (no_name text) checks none in
    rw named (ap (λ names. text ∷ names) (filter_map-name_of (next_place place) texts rest))

-- Texts none of which is refused are names.
pub names-from_walk : (place : ℕ) (texts : List (List ℕ))
    → first_broken place (map no_name texts) ≡ None
    → AllByRecursion (λ text. is_name text ≡ true) texts
names-from_walk place [] none = tt
names-from_walk place (text ∷ texts) none =
    let checks = map no_name texts in (
      no_name-none text (first_broken-head place (no_name text) checks none),
      names-from_walk (next_place place) texts
          (first_broken-tail place (no_name text) checks none),
    )

-- The repeats among two lists are those of the first, and those of the second with the first among
-- the others.
pub repeats-append : (others xs ys : List (List ℕ))
    → repeats others (xs ++ ys) ≡ repeats others xs ++ repeats (others ++ xs) ys
repeats-append others [] ys = rw append-nil refl
repeats-append others (x ∷ xs) ys =
    rw (← append_assoc others (x ∷ []) xs)
    (ap (λ rest. repeated others x ∷ rest) (repeats-append (others ++ x ∷ []) xs ys))

-- A text that isn't shown as repeated is none of the others.
repeated-none : (others : List (List ℕ)) (text : List ℕ) → repeated others text ≡ None
    → list_any (bytes_eq text) others ≡ false
repeated-none others text none =
    elim (cases_Bool (list_any (bytes_eq text) others)) [
      | inl among ↦ absurd (cc (rw among at none))
      | inr apart ↦ apart
    ]

-- Texts without repeats, behind others that are distinct, are distinct with them.
distinct-behind : (place : ℕ) (others texts : List (List ℕ))
    → first_broken place (repeats others texts) ≡ None → IsDistinct bytes_eq others
    → IsDistinct bytes_eq (others ++ texts)
distinct-behind place others [] none apart = rw append-nil apart
distinct-behind place others (text ∷ texts) none apart =
    let checks = repeats (others ++ text ∷ []) texts in
    let new = repeated-none others text
    (first_broken-head place (repeated others text) checks none) in
    let rest = first_broken-tail place (repeated others text) checks none in
    rw (← append_assoc others (text ∷ []) texts)
    (distinct-behind (next_place place) (others ++ text ∷ []) texts rest
    (IsDistinct-push nat_list_eq_equiv others text apart new))

-- Texts without repeats are distinct.
pub distinct-from_walk : (place : ℕ) (texts : List (List ℕ))
    → first_broken place (repeats [] texts) ≡ None → IsDistinct bytes_eq texts
unfolding IsDistinct
distinct-from_walk place texts none = distinct-behind place [] texts none tt

-- A walk over numbers that finds nothing finds nothing at each of them.
pub first_broken-range : (check : ℕ → Option Shown) (place first count i : ℕ)
    → first_broken place (map check (range_with_len first count)) ≡ None → i < count
    → check (first + i) ≡ None
first_broken-range check place first zero i none within = absurd (omega arith)
first_broken-range check place first (suc count) zero none within =
    let same : first + 0 ≡ first = omega arith in
    rw same (first_broken-head place (check first) (map check (range_with_len (first + 1) count))
    none)
first_broken-range check place first (suc count) (suc i) none within =
    let same : first + suc i ≡ (first + 1) + i = omega arith in
    let rest = first_broken-tail place (check first)
    (map check (range_with_len (first + 1) count)) none in
    rw same (first_broken-range check (next_place place) (first + 1) count i rest (omega arith))

-- The place of a text is one of the names'.
pub place_of-within : (names : List (List ℕ)) (text : List ℕ) (i : ℕ) → place_of names text ≡ Some i
    → i < length names
place_of-within names text i found =
    option_and_then_some (λ name. position (bytes_eq name) names) (name_of text) i found
    (λ name named at. (position-Some (bytes_eq name) names i [] at).0)

-- The laws by which a walk over several lists finds the first broken check of them all.
pub ruleset walk_laws = (walked-append, found_by-walked)
