-- Laws of `chosen`: it is the one set that is chosen, by `IsChosen`, and there is one exactly
-- where the whole free set is suitable.
use Rattle.std.proofs.Common.{ℕ, ◌<◌, ◌≡◌, ◌≢◌, ◌↔◌, ◌∙◌, true, false, List, [], ◌∷◌, length}
use Rattle.std.proofs.Common.{filter, get_or, Contains, Option, Some, None, sym, refl, ap, subst}
use Rattle.std.proofs.Common.{inl, inr, arith, IsSome, lt-ltb, le-ltb, eq-eqb, le-leb, leb-true}
use Rattle.std.proofs.lemmas.{Cmp.nat_cmp_total, Cmp.nat_list_cmp_total, Cmp.on_total}
use Rattle.std.proofs.lemmas.{Cmp.then_total, Map.Lookups.exact_bytes, List.MinMax.ranks_by}
use Rattle.std.proofs.lemmas.{List.MinMax.IsFirstBest-from_best_of, Bool.both_ways, Bool.and_from}
use Rattle.std.proofs.lemmas.{Bool.and_parts, Bool.cases_lt, Option.same_Some, Option.none-some}
use Rattle.std.proofs.lemmas.{List.Elements.Contains-get_or, List.get_or_default}
use Rattle.std.specs.{List.best_of, declared.cmp.Ordering.TheVariants.Less, Ordering.nat_cmp}
use Rattle.std.specs.{Ordering.is_lt, Cmp.IsTotalOrder, Cmp.Lexicographic.slice_cmp}
use Rattle.aeth_slots.specs.SlotSet.{Slots, IsSlotSet, gap_of}
use Rattle.aeth_slots.specs.Choice.{IsSuitable, is_suitable, sublists, subsets, choice_order}
use Rattle.aeth_slots.specs.Choice.{first_by, chosen, IsChosen}
use Rattle.aeth_slots.proofs.{Sublists.sublists-itself, Rounds.subset-size, Rounds.subset-round}
use Rattle.aeth_slots.proofs.{Rounds.round-length, Rounds.round-suitable, Rounds.round-whole}
use Rattle.aeth_base.proofs.Members.{Contains-nil, Contains-map, Contains-filter, filter-Contains}
use Rattle.aeth_base.proofs.TestLemmas.{equal_from_turned}

-- The test says what the fact says.
pub is_suitable-true : (need gap : ℕ) (set : Slots) → is_suitable need gap set ≡ true
    → IsSuitable need gap set
is_suitable-true need gap set test =
    let (counts, near) = and_parts _ _ test in
    let (some, enough) = and_parts _ _ counts in
    record { some = leb-true _ _ some; enough = leb-true _ _ enough; near = leb-true _ _ near }

-- The test passes where the fact holds.
pub true-is_suitable : (need gap : ℕ) (set : Slots) → IsSuitable need gap set
    → is_suitable need gap set ≡ true
true-is_suitable need gap set suitable =
    and_from _ _
    (and_from _ _ (le-leb 1 (length set.slots) suitable.some)
    (le-leb need (length set.slots) suitable.enough))
    (le-leb (gap_of set) gap suitable.near)

-- A set is a subset of itself.
pub subsets-itself : (set : Slots) → Contains (subsets set) set
subsets-itself set =
    Contains-map (λ slots. record { size = set.size; slots = slots }) (sublists set.slots) set.slots
    (sublists-itself set.slots)

-- ---- the first of a list

choice_total : IsTotalOrder choice_order
choice_total =
    then_total (on_total (λ (set : Slots). length set.slots) nat_cmp_total)
    (on_total (λ (set : Slots). set.slots) nat_list_cmp_total)

-- The first of a list is in it, and nothing in it comes before.
pub record IsFirstOf (list : List Slots) (set : Slots) : Type 0 where
  pub member : Contains list set
  pub first : (other : Slots) → Contains list other → is_lt (choice_order other set) ≡ false

-- What `first_by` gives is the first.
pub first_by-some : (list : List Slots) (set : Slots) → first_by choice_order list ≡ Some set
    → IsFirstOf list set
first_by-some [] set found = absurd (none-some set found)
first_by-some (x ∷ list) set found =
    let best = IsFirstBest-from_best_of (ranks_by choice_total (λ (s : Slots). s)) x list in
    let same : best_of (λ a b. is_lt (choice_order a b)) x list ≡ set = same_Some _ _ found in
    let at : get_or (x ∷ list) best.0 x ≡ set = best.2 ∙ same in
    record {
      member = subst (Contains (x ∷ list)) at (Contains-get_or (x ∷ list) best.0 x best.1.0);
      first = λ other (k, within, is).
          let at' : get_or (x ∷ list) best.0 other ≡ set =
          get_or_default (x ∷ list) best.0 other x best.1.0 ∙ at in
          subst (λ (s : Slots). is_lt (choice_order other s) ≡ false) at'
          (subst (λ (s : Slots). is_lt (choice_order s (get_or (x ∷ list) best.0 other)) ≡ false) is
          (best.1.1 k other within));
    }

-- An empty list alone has no first.
pub first_by-none : (list : List Slots) → first_by choice_order list ≡ None → (set : Slots)
    → Contains list set → ⊥
first_by-none [] none set has = Contains-nil has
first_by-none (x ∷ list) none set has = cc

-- ---- what comes before, by size and by list

-- A set with fewer slots comes before.
fewer_before : (set other : Slots) → length set.slots < length other.slots
    → is_lt (choice_order set other) ≡ true
fewer_before set other fewer = rw (lt-ltb (length set.slots) (length other.slots) fewer) refl

-- Of two sets with as many slots the lexicographically first comes before.
earlier_before : (set other : Slots) → length set.slots ≡ length other.slots
    → slice_cmp nat_cmp set.slots other.slots ≡ Less → is_lt (choice_order set other) ≡ true
earlier_before set other same before =
    rw (
      le-ltb (length set.slots) (length other.slots) (omega arith),
      eq-eqb (length set.slots) (length other.slots) same,
      before,
    ) refl

-- Two lists of which neither comes before the other are equal.
same_lists : (xs ys : List ℕ) → slice_cmp nat_cmp xs ys ≢ Less → slice_cmp nat_cmp ys xs ≢ Less
    → xs ≡ ys
same_lists xs ys not_before not_after =
    exact_bytes xs ys (equal_from_turned (slice_cmp nat_cmp xs ys) (slice_cmp nat_cmp ys xs)
    (nat_list_cmp_total.antisymm xs ys) not_before not_after)

-- ---- what is chosen

passes-subset : (free : Slots) (need gap : ℕ) (set : Slots)
    → Contains (filter (is_suitable need gap) (subsets free)) set
    → Contains (subsets free) set × IsSuitable need gap set
passes-subset free need gap set has =
    let (subset, test) = filter-Contains (is_suitable need gap) (subsets free) set has in
    (subset, is_suitable-true need gap set test)

subset-passes : (free : Slots) (need gap : ℕ) (set : Slots) → Contains (subsets free) set
    → IsSuitable need gap set → Contains (filter (is_suitable need gap) (subsets free)) set
subset-passes free need gap set subset suitable =
    Contains-filter (is_suitable need gap) (subsets free) set subset
    (true-is_suitable need gap set suitable)

-- What `chosen` gives is chosen.
pub chosen-some : (free : Slots) (need gap : ℕ) (set : Slots) → chosen free need gap ≡ Some set
    → IsChosen free need gap set
unfolding chosen
chosen-some free need gap set found =
    let is = first_by-some (filter (is_suitable need gap) (subsets free)) set found in
    let (subset, suitable) = passes-subset free need gap set is.member in
    record {
      subset = subset;
      suitable = suitable;
      fewest = λ other within fits. elim (cases_lt (length other.slots) (length set.slots)) [
        | inl fewer ↦
            absurd (both_ways _ (is.first other (subset-passes free need gap other within fits))
            (fewer_before other set fewer))
        | inr enough ↦ enough
      ];
      first = λ other within fits same before.
          both_ways _ (is.first other (subset-passes free need gap other within fits))
          (earlier_before other set same before);
    }

-- Where `chosen` gives none, no subset is suitable.
pub chosen-none : (free : Slots) (need gap : ℕ) → chosen free need gap ≡ None → (set : Slots)
    → Contains (subsets free) set → IsSuitable need gap set → ⊥
unfolding chosen
chosen-none free need gap none set subset suitable =
    first_by-none (filter (is_suitable need gap) (subsets free)) none set
    (subset-passes free need gap set subset suitable)

-- At most one set is chosen.
pub IsChosen-unique : (free : Slots) (need gap : ℕ) (set other : Slots) → IsChosen free need gap set
    → IsChosen free need gap other → set ≡ other
IsChosen-unique free need gap set other is is' =
    let counts : length set.slots ≡ length other.slots =
    omega (arith, is.fewest other is'.subset is'.suitable, is'.fewest set is.subset is.suitable)
    in
    let slots : set.slots ≡ other.slots = same_lists set.slots other.slots
    (is'.first set is.subset is.suitable counts)
    (is.first other is'.subset is'.suitable (sym counts)) in
    let sizes : set.size ≡ other.size = subset-size free set is.subset
    ∙ sym (subset-size free other is'.subset) in
    λ i. record { size = sizes i; slots = slots i }

-- What is chosen is what `chosen` gives.
pub chosen-is : (free : Slots) (need gap : ℕ) (set : Slots) → IsChosen free need gap set
    → chosen free need gap ≡ Some set
chosen-is free need gap set is =
    let cases : (o : Option Slots) → chosen free need gap ≡ o → o ≡ Some set =
    elim [
      | None ↦ λ none. absurd (chosen-none free need gap none set is.subset is.suitable)
      | Some other ↦
          λ some. ap Some
          (IsChosen-unique free need gap other set (chosen-some free need gap other some) is)
    ]
    in cases (chosen free need gap) refl

-- Where no subset is suitable, `chosen` gives none.
pub chosen-nothing : (free : Slots) (need gap : ℕ)
    → ((set : Slots) → Contains (subsets free) set → IsSuitable need gap set → ⊥)
    → chosen free need gap ≡ None
chosen-nothing free need gap never =
    let cases : (o : Option Slots) → chosen free need gap ≡ o → o ≡ None =
    elim [
      | None ↦ λ none. refl
      | Some set ↦ λ some. let is = chosen-some free need gap set some in
          absurd (never set is.subset is.suitable)
    ]
    in cases (chosen free need gap) refl

-- ---- the whole free set

-- Where a subset is suitable, the whole set is.
pub whole-suitable : (free : Slots) (need gap : ℕ) (set : Slots) → IsSlotSet free
    → Contains (subsets free) set → IsSuitable need gap set → IsSuitable need gap free
whole-suitable free need gap set is subset suitable =
    let round = subset-round free need gap set is subset suitable in
    let room = round-length free gap set.slots is round in
    round-suitable free need gap free.slots
    (round-whole free gap (length set.slots) is (set.slots, round, refl) room)
    (omega (arith, room, suitable.enough))

-- A set is chosen exactly where the whole free set is suitable.
pub chosen-whole : (free : Slots) (need gap : ℕ) → IsSlotSet free
    → IsSome (chosen free need gap) ↔ IsSuitable need gap free
chosen-whole free need gap is =
    let cases : (o : Option Slots) → chosen free need gap ≡ o
    → IsSome o ↔ IsSuitable need gap free =
    elim [
      | None ↦
          λ none. (
            (λ some. cc),
            (λ suitable. absurd
                (chosen-none free need gap none free (subsets-itself free) suitable)),
          )
      | Some set ↦ λ some. let chosen_set = chosen-some free need gap set some in (
        (λ _. whole-suitable free need gap set is chosen_set.subset chosen_set.suitable),
        (λ _. refl),
      )
    ]
    in cases (chosen free need gap) refl
