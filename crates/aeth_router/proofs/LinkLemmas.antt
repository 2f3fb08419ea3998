-- Laws of the lists of links of a router.
use Rattle.std.proofs.Common.{◌≡◌, ◌<◌, ◌+◌, ℕ, zero, suc, refl, ap, inl, inr, arith, length, Bool}
use Rattle.std.proofs.Common.{true, List, [], ◌∷◌, Some, slice_get, None, get_or, take, ◌∙◌, ◌⊎◌}
use Rattle.std.proofs.Common.{◌==◌, count_by, position, eq-eqb, eqb-true, le-ltb}
use Rattle.std.proofs.lemmas.Map.Keys.{any_passes_from_place}
use Rattle.std.proofs.lemmas.Bool.{cases_Bool, cases_eq, cases_lt, Decides.nat_tests}
use Rattle.std.proofs.lemmas.List.Sums.{passes_at_first, position_or_len_is}
use Rattle.std.proofs.lemmas.Option.{same_Some, slice_get_within, slice_get-get_or}
use Rattle.std.proofs.lemmas.Option.{get_or_from_slice_get}
use Rattle.std.specs.List.{position_or_len}
use Rattle.aeth_base.proofs.Members.{list_any-Contains, slice_get-Contains}
use Rattle.aeth_chip.specs.{declared.node.Link.Link, Nodes.numbers_from}
use Rattle.aeth_chip.proofs.NodeLemmas.{numbers_from-at, numbers_from-found}
use Rattle.aeth_clocked.specs.Wires.{AreLinks}
use Rattle.aeth_router.specs.Router.{AreDistinctLinks, is_among}

-- A link before all others is apart from them.
AreDistinctLinks-cons : (first : ℕ) (others : List ℕ)
    → ((i link : ℕ) → slice_get others i ≡ Some link → first < link) → AreDistinctLinks others
    → AreDistinctLinks (first ∷ others)
AreDistinctLinks-cons first others above apart zero zero link at there = refl
AreDistinctLinks-cons first others above apart zero (suc j) link at there =
    let same : first ≡ link = same_Some first link at in
    let below = above j link there in
    absurd (omega arith)
AreDistinctLinks-cons first others above apart (suc i) zero link at there =
    let same : first ≡ link = same_Some first link there in
    let below = above i link at in
    absurd (omega arith)
AreDistinctLinks-cons first others above apart (suc i) (suc j) link at there =
    ap (λ (n : ℕ). suc n) (apart i j link at there)

-- They are apart. So the links on which a node sends are, and those on which it receives.
pub AreDistinctLinks-numbers_from : (number : ℕ) (test : Link → Bool) (links : List Link)
    → AreDistinctLinks (numbers_from number test links)
AreDistinctLinks-numbers_from number test [] = λ i j link at there. absurd (cc at)
AreDistinctLinks-numbers_from number test (first ∷ links) =
    let others = numbers_from (number + 1) test links in
    let rest = AreDistinctLinks-numbers_from (number + 1) test links in
    elim (cases_Bool (test first)) [
      | inl passes ↦
          rw passes (AreDistinctLinks-cons number others (λ j other there.
          let below = (numbers_from-found test (number + 1) links j other there).0 in omega arith)
          rest)
      | inr fails ↦ rw fails rest
    ]

-- Each is that of a link that passes.
numbers_from-link : (number : ℕ) (test : Link → Bool) (links : List Link) (n : ℕ)
    → is_among (numbers_from number test links) n ≡ true
    → (i : ℕ) × (link : Link) × (slice_get links i ≡ Some link) × (test link ≡ true)
    × (n ≡ number + i)
numbers_from-link number test [] n is = absurd (cc is)
numbers_from-link number test (first ∷ links) n is =
    let others = numbers_from (number + 1) test links in
    let rest = numbers_from-link (number + 1) test links n in
    elim (cases_Bool (test first)) [
      | inl passes ↦ elim (cases_eq number n) [
        | inl same ↦ (0, first, refl, passes, omega arith)
        | inr other ↦
            let among : is_among (number ∷ others) n ≡ true = rw passes at is in
            let later : is_among others n ≡ true = grind (arith, nat_tests) in
            let found = rest later in
            (suc found.0, found.1, found.2, found.3, let at = found.4 in omega arith)
      ]
      | inr fails ↦
          let found = rest (rw fails at is) in
          (suc found.0, found.1, found.2, found.3, let at = found.4 in omega arith)
    ]

-- A link that is at some place is one of them.
pub is_among-at : (links : List ℕ) (place link : ℕ) → slice_get links place ≡ Some link
    → is_among links link ≡ true
is_among-at links place link at =
    any_passes_from_place (λ among. among == link) links place link at (eq-eqb link link refl)

-- And one of them stands at some place.
pub among-place : (links : List ℕ) (link : ℕ) → is_among links link ≡ true
    → (place : ℕ) × (slice_get links place ≡ Some link)
among-place links link is = slice_get-Contains links link (list_any-Contains links link is)

-- The numbers of all links that pass a test, as those of the links that begin or end at a node.
module _ (test : Link → Bool) (links : List Link) (number : ℕ) where
  -- Each is the number of such a link.
  pub passes-from_is_among : is_among (numbers_from 0 test links) number ≡ true
      → (link : Link) × (slice_get links number ≡ Some link) × (test link ≡ true)
  passes-from_is_among is =
      let found = numbers_from-link 0 test links number is in
      let same : found.0 ≡ number = let at = found.4 in omega arith in
      (found.1, rw same at found.2, found.3)

  -- The number of each such link is one.
  pub is_among-from_passes : (link : Link) → slice_get links number ≡ Some link
      → test link ≡ true → is_among (numbers_from 0 test links) number ≡ true
  is_among-from_passes link at passes =
      let from_start : 0 + number ≡ number = omega arith in
      is_among-at (numbers_from 0 test links) (count_by test (take number links)) number
      (rw from_start at (numbers_from-at test 0 links number link at passes))

-- They are numbers of links.
pub AreLinks-numbers_from : (test : Link → Bool) (links : List Link)
    → AreLinks (is_among (numbers_from 0 test links)) (length links)
AreLinks-numbers_from test links number is =
    let found = passes-from_is_among test links number is in
    slice_get_within links number found.0 found.1

-- The port of a link is its place among the links on which a router sends.
pub position-at : (links : List ℕ) (port link : ℕ) → AreDistinctLinks links
    → slice_get links port ≡ Some link → position (λ other. other == link) links ≡ Some port
position-at links port link apart at =
    let within = slice_get_within links port link at in
    let first : position_or_len (λ other. other == link) links ≡ port =
    position_or_len_is (λ other. other == link) links port 0 (omega arith)
    (λ k before.
    let there = slice_get-get_or links k 0 (omega arith) in
    elim (cases_eq (get_or links k 0) link) [
      | inl same ↦
          absurd (let place = apart k port link (there ∙ ap (λ (n : ℕ). Some n) same) at in
          omega arith)
      | inr other ↦ grind (arith, nat_tests)
    ])
    (λ within. eq-eqb (get_or links port 0) link (get_or_from_slice_get links port link 0 at)) in
    rw first (grind (arith, nat_tests))

-- A link stands at a place of a list, or is at none.
pub place-of : (links : List ℕ) (link : ℕ)
    → ((place : ℕ) × (slice_get links place ≡ Some link))
    ⊎ (position (λ other. other == link) links ≡ None)
place-of links link =
    let place = position_or_len (λ other. other == link) links in
    elim (cases_lt place (length links)) [
      | inl within ↦
          let passes = passes_at_first (λ other. other == link) links 0 within in
          inl (
            place,
            slice_get-get_or links place 0 within
                ∙ ap (λ n. Some n) (eqb-true (get_or links place 0) link passes),
          )
      | inr past ↦ inr (rw (le-ltb place (length links) past) refl)
    ]
