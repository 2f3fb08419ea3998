-- The places of names, lines that are judged one by one, and items in order.
use Rattle.std.proofs.Common.{◌≡◌, ◌+◌, ◌<◌, ◌≤◌, ◌∙◌, ℕ, zero, suc, Bool, true, false, List, []}
use Rattle.std.proofs.Common.{◌∷◌, length, map, get_or, Option, Some, None, Result, Ok, refl, sym}
use Rattle.std.proofs.Common.{ap, subst, arith, is_none, nat_lt, position, unwrap_or, lt-ltb}
use Rattle.std.proofs.Common.{ltb-true}
use Rattle.std.proofs.lemmas.{Bool.and_parts, Bool.and_from, Bool.cond-true}
use Rattle.std.proofs.lemmas.{List.Quantifiers.position-Some, List.Sums.position_or_len_is}
use Rattle.std.proofs.lemmas.{Option.slice_get-get_or, Slice.Eq.bytes_eq-Decides}
use Rattle.std.specs.List.{AllByRecursion, IsDistinct, list_all, position_or_len}
use Rattle.std.specs.Str.{bytes_eq}
use Rattle.aeth_base.specs.Faults.{BrokenRule}
use Rattle.aeth_slots.specs.SlotSet.{Ascends}
use Rattle.aeth_document.{specs.Chain.◌>>=◌, proofs.ChainLemmas.bind_ok}
use Rattle.aeth_text.specs.Order.{Rises, RisesAfter, line_after}
use Rattle.aeth_plan.specs.Plan.{name_at}
use Rattle.aeth_plan.specs.Rules.{each, found, holds, ordered, place_among}
use Rattle.aeth_plan.proofs.Chains.{err_ok, ok_is}

-- ---- Names

name_at-get_or : (names : List (List ℕ)) (i : ℕ) → i < length names
    → name_at names i ≡ get_or names i []
name_at-get_or names i within = ap (λ o. unwrap_or o []) (slice_get-get_or names i [] within)

-- The name at the place of a name is this name.
pub place_only : (names : List (List ℕ)) (name : List ℕ) (i : ℕ) → place_among names name ≡ Some i
    → (i < length names) × (name_at names i ≡ name)
place_only names name i is =
    let (within, same, before) = position-Some (bytes_eq name) names i [] is in
    (within, name_at-get_or names i within ∙ sym ((bytes_eq-Decides name _).0 same))

bytes_eq_turned : (a b : List ℕ) → bytes_eq a b ≡ false → bytes_eq b a ≡ false
bytes_eq_turned a b other =
    let cases : (t : Bool) → bytes_eq b a ≡ t → bytes_eq b a ≡ false =
    elim [
      | true ↦ λ is.
          let same : a ≡ b = sym ((bytes_eq-Decides b a).0 is) in
          absurd (cc (sym ((bytes_eq-Decides a b).1 same) ∙ other))
      | false ↦ λ is. is
    ]
    in cases (bytes_eq b a) refl

apart_from : (name : List ℕ) (names : List (List ℕ))
    → AllByRecursion (λ other. bytes_eq name other ≡ false) names → (i : ℕ) → i < length names
    → bytes_eq (get_or names i []) name ≡ false
apart_from name [] apart i within = absurd (omega arith)
apart_from name (other ∷ names) apart zero within = bytes_eq_turned name other apart.0
apart_from name (other ∷ names) apart (suc i) within = apart_from name names apart.1 i (omega arith)

apart_at : (names : List (List ℕ)) → IsDistinct bytes_eq names → (k i : ℕ) → k < i
    → i < length names → bytes_eq (get_or names i []) (get_or names k []) ≡ false
unfolding IsDistinct
apart_at [] apart k i less within = absurd (omega arith)
apart_at (name ∷ names) apart k zero less within = absurd (omega arith)
apart_at (name ∷ names) apart zero (suc i) less within =
    apart_from name names apart.0 i (omega arith)
apart_at (name ∷ names) apart (suc k) (suc i) less within =
    apart_at names apart.1 k i (omega arith) (omega arith)

-- Where no two names are equal, the place of the name at a place is this place.
pub place_again : (names : List (List ℕ)) → IsDistinct bytes_eq names → (i : ℕ)
    → i < length names → place_among names (name_at names i) ≡ Some i
place_again names apart i within =
    let name = get_or names i [] in
    let at : position_or_len (bytes_eq name) names ≡ i =
    position_or_len_is (bytes_eq name) names i [] (omega arith)
    (λ k less. apart_at names apart k i less within)
    (λ w. (bytes_eq-Decides name name).1 refl) in
    let here : position (bytes_eq name) names ≡ Some i =
    rw at (cond-true (nat_lt i (length names)) (Some i) None (lt-ltb i (length names) within)) in
    ap (λ n. position (bytes_eq n) names) (name_at-get_or names i within) ∙ here

-- ---- Tests

pub found_ok : (line field : ℕ) (o : Option ℕ) (n : ℕ) → found line field o ≡ Ok n → o ≡ Some n
found_ok line field None n e = absurd (err_ok _ n e)
found_ok line field (Some m) n e = ap (λ k. Some k) (ok_is m n e)

pub holds_ok : (line field : ℕ) (b : Bool) (u : Unit {0}) → holds line field b ≡ Ok u → b ≡ true
holds_ok line field true u e = refl
holds_ok line field false u e = absurd (err_ok _ u e)

pub all_below : {X : Type 0} (number : X → ℕ) (high : ℕ) (xs : List X)
    → list_all (λ x. nat_lt (number x) high) xs ≡ true → AllByRecursion (λ x. number x < high) xs
all_below number high [] is = tt
all_below number high (x ∷ xs) is =
    let (first, rest) = and_parts (nat_lt (number x) high) _ is in
    (ltb-true (number x) high first, all_below number high xs rest)

pub below_all : {X : Type 0} (number : X → ℕ) (high : ℕ) (xs : List X)
    → AllByRecursion (λ x. number x < high) xs → list_all (λ x. nat_lt (number x) high) xs ≡ true
below_all number high [] below = refl
below_all number high (x ∷ xs) below =
    and_from (nat_lt (number x) high) _ (lt-ltb (number x) high below.0)
    (below_all number high xs below.1)

pub at_most : {X : Type 0} (number : X → ℕ) (high most : ℕ) (xs : List X) → high ≤ most + 1
    → AllByRecursion (λ x. number x < high) xs → AllByRecursion (λ x. number x ≤ most) xs
at_most number high most [] less below = tt
at_most number high most (x ∷ xs) less below =
    (omega (arith, below.0), at_most number high most xs less below.1)

-- ---- Order

pub ordered_ok : (o : Option ℕ) (u : Unit {0}) → ordered o ≡ Ok u → o ≡ None
ordered_ok None u e = refl
ordered_ok (Some line) u e = absurd (err_ok _ u e)

pub is_none-None : (o : Option ℕ) → is_none o ≡ true → o ≡ None
is_none-None None is = refl
is_none-None (Some n) is = absurd cc

-- Starts that rise and are below a bound are those of a set of slots.
ascends_after : (high last : ℕ) (xs : List ℕ) → RisesAfter nat_lt last xs
    → AllByRecursion (λ x. x < high) xs → Ascends (last + 1) high xs
ascends_after high last [] rises below = tt
ascends_after high last (x ∷ xs) rises below =
    (omega (arith, ltb-true last x rises.0), below.0, ascends_after high x xs rises.1 below.1)

pub ascends : (high : ℕ) (xs : List ℕ) → Rises nat_lt xs → AllByRecursion (λ x. x < high) xs
    → Ascends 0 high xs
ascends high [] rises below = tt
ascends high (x ∷ xs) rises below = (omega arith, below.0, ascends_after high x xs rises below.1)

rises_ascends : (high last : ℕ) (xs : List ℕ) → Ascends (last + 1) high xs
    → RisesAfter nat_lt last xs
rises_ascends high last [] asc = tt
rises_ascends high last (x ∷ xs) asc =
    (lt-ltb last x (omega (arith, asc.0)), rises_ascends high x xs asc.2)

pub ascends_rises : (high : ℕ) (xs : List ℕ) → Ascends 0 high xs → Rises nat_lt xs
ascends_rises high [] asc = tt
ascends_rises high (x ∷ xs) asc = rises_ascends high x xs asc.2

pub ascends_below : (low high : ℕ) (xs : List ℕ) → Ascends low high xs
    → AllByRecursion (λ x. x < high) xs
ascends_below low high [] asc = tt
ascends_below low high (x ∷ xs) asc = (asc.1, ascends_below (x + 1) high xs asc.2)

-- ---- Lines that are judged one by one

pub each_again : {X Y : Type 0} (judged : ℕ → X → Result Y BrokenRule) (spell : Y → X)
    (P : Y → Type 0) → ((line : ℕ) (y : Y) → P y → judged line (spell y) ≡ Ok y) → (line : ℕ)
    (ys : List Y) → AllByRecursion P ys → each judged line (map spell ys) ≡ Ok ys
each_again judged spell P again line [] has = refl
each_again judged spell P again line (y ∷ ys) has =
    rw (again line y has.0, each_again judged spell P again (line_after line 1) ys has.1) refl

pub each_only : {X Y : Type 0} (judged : ℕ → X → Result Y BrokenRule) (spell : Y → X)
    (Q : X → Type 0) (P : Y → Type 0)
    → ((line : ℕ) (x : X) (y : Y) → Q x → judged line x ≡ Ok y → (spell y ≡ x) × P y)
    → (line : ℕ) (xs : List X) (ys : List Y) → AllByRecursion Q xs → each judged line xs ≡ Ok ys
    → (map spell ys ≡ xs) × AllByRecursion P ys
each_only judged spell Q P only line [] ys has e =
    subst (λ zs. (map spell zs ≡ []) × AllByRecursion P zs) (ok_is [] ys e) (refl, tt)
each_only {X} {Y} judged spell Q P only line (x ∷ xs) ys has e =
    let (y, first, e1) = bind_ok (judged line x)
    (λ y. each judged (line_after line 1) xs >>= (λ zs. Ok (y ∷ zs))) ys e in
    let (zs, rest, e2) =
    bind_ok (each judged (line_after line 1) xs) (λ (zs : List Y). Ok (y ∷ zs)) ys e1 in
    let (same, is) = only line x y has.0 first in
    let (same_rest, are) = each_only judged spell Q P only (line_after line 1) xs zs has.1 rest in
    subst (λ ws. (map spell ws ≡ (x ∷ xs)) × AllByRecursion P ws) (ok_is (y ∷ zs) ys e2)
    (rw (same, same_rest) refl, (is, are))
