-- The first candidate as a function is the first candidate as a fact.
use Rattle.std.proofs.Common.{◌≡◌, ◌∙◌, ℕ, Bool, true, false, List, [], ◌∷◌, Contains, Option, Some}
use Rattle.std.proofs.Common.{None, get_or, filter, refl, sym, ap, subst, inl, inr, cond}
use Rattle.std.proofs.lemmas.{Cmp.on_total, List.get_or_default, List.Elements.Contains-get_or}
use Rattle.std.proofs.lemmas.{List.MinMax.ranks_by, List.MinMax.IsFirstBest-from_best_of}
use Rattle.std.proofs.lemmas.{Option.same_Some, Option.none-some}
use Rattle.std.specs.{List.best_of, List.flat_map, declared.cmp.Ordering.Ordering, Ordering.is_lt}
use Rattle.std.specs.{Ordering.on, Cmp.IsTotalOrder}
use Rattle.aeth_base.proofs.Members.{Contains-cases, Contains-filter, Contains-flat_map}
use Rattle.aeth_base.proofs.Members.{Contains-here, Contains-nil, filter-Contains}
use Rattle.aeth_base.proofs.Members.{flat_map-Contains}
use Rattle.aeth_base.specs.declared.ids.{LinkId.LinkId, NiId.NiId}
use Rattle.aeth_slots.specs.{Choice.first_by, SlotSet.Slots}
use Rattle.aeth_chip.specs.{Chip.ChipData, Chip.IsChip, Paths.IsAdmissible}
use Rattle.aeth_book.specs.Book.{BookData, IsBook}
use Rattle.aeth_check.{specs.Routes.is_admissible, proofs.RouteLaws.is_admissible-Decides}
use Rattle.aeth_paths.specs.Candidates.{IsCandidate, IsFirst, link_cost, path_order, slots_of}
use Rattle.aeth_paths.specs.Open.{is_crowded}
use Rattle.aeth_paths.specs.Pairs.{IsOffered, OfferedFrom}
use Rattle.aeth_paths.specs.declared.request.{Found.Found, Request.Request}
use Rattle.aeth_paths.proofs.{CandidateLemmas.not-less, CandidateLemmas.offered-candidate}
use Rattle.aeth_paths.proofs.{CandidateLemmas.room-from, CandidateLemmas.slots-live}
use Rattle.aeth_paths.proofs.{FirstLemmas.path_total, LiveLemmas.sized, UniqueLemmas.first-unique}
use Rattle.aeth_alloc.proofs.ListedPaths.{path-listed}
use Rattle.aeth_alloc.specs.FirstCandidate.{candidates, candidates_between, first_candidate}
use Rattle.aeth_alloc.specs.FirstCandidate.{found_with, paths_of}

-- ---- the first of a list of what was found

module _ (cost : LinkId → ℕ) where
  abbrev order : Found → Found → Ordering
  order = on (λ (found : Found). found.path) (path_order cost)

  -- What is first is in the list, and nothing of it comes before.
  first-some : (list : List Found) (found : Found) → first_by order list ≡ Some found
      → Contains list found × ((other : Found) → Contains list other
      → is_lt (order other found) ≡ false)
  first-some [] found is = absurd (none-some found is)
  first-some (x ∷ list) found is =
      let total : IsTotalOrder order = on_total (λ (f : Found). f.path) (path_total cost) in
      let best = IsFirstBest-from_best_of (ranks_by total (λ (f : Found). f)) x list in
      let same : best_of (λ a b. is_lt (order a b)) x list ≡ found = same_Some _ _ is in
      let at : get_or (x ∷ list) best.0 x ≡ found = best.2 ∙ same in (
        subst (Contains (x ∷ list)) at (Contains-get_or (x ∷ list) best.0 x best.1.0),
        λ other (k, within, it).
            let at' : get_or (x ∷ list) best.0 other ≡ found =
            get_or_default (x ∷ list) best.0 other x best.1.0 ∙ at in
            subst (λ (f : Found). is_lt (order other f) ≡ false) at'
            (subst (λ (f : Found). is_lt (order f (get_or (x ∷ list) best.0 other)) ≡ false) it
            (best.1.1 k other within)),
      )

  -- An empty list alone has none.
  first-none : (list : List Found) → first_by order list ≡ None → (found : Found)
      → Contains list found → ⊥
  first-none [] is found has = Contains-nil has
  first-none (x ∷ list) is found has = cc

-- ---- the listed candidates

module _ (chip : ChipData) (book : BookData) (ask : Request) (from to crowded : List NiId)
    (is_chip : IsChip chip) (is : IsBook book) (links : book.links ≡ chip.links) where
  -- The test of paths, over the links of the book.
  on_chip : (a b : NiId) (path : List LinkId) → IsAdmissible book.links ask.detour a b path
      → IsAdmissible chip.links ask.detour a b path
  on_chip a b path = subst (λ ls. IsAdmissible ls ask.detour a b path) links

  in_book : (a b : NiId) (path : List LinkId) → IsAdmissible chip.links ask.detour a b path
      → IsAdmissible book.links ask.detour a b path
  in_book a b path = subst (λ ls. IsAdmissible ls ask.detour a b path) (sym links)

  -- The paths of a pair, with their slots.
  abbrev all_between : NiId → NiId → List Found
  all_between a b = flat_map (λ path. found_with a b path (slots_of book ask path))
      (filter (is_admissible chip ask.detour a b) (paths_of chip))

  -- A candidate is listed.
  candidate-listed : (found : Found) → IsCandidate book ask from to crowded found
      → Contains (candidates chip book ask from to crowded) found
  candidate-listed found candidate =
      let a = found.from in
      let b = found.to in
      let path = found.path in
      let room = room-from crowded a b candidate.allowed.room in
      let admissible = on_chip a b path candidate.path in
      let one : Contains (found_with a b path (slots_of book ask path)) found =
      subst (λ slots. Contains (found_with a b path slots) found) (sym candidate.slots)
      (Contains-here found []) in
      let among : Contains (all_between a b) found =
      Contains-flat_map (λ p. found_with a b p (slots_of book ask p))
      (filter (is_admissible chip ask.detour a b) (paths_of chip)) path found
      (Contains-filter (is_admissible chip ask.detour a b) (paths_of chip) path
      (path-listed chip ask.detour a b path admissible)
      ((is_admissible-Decides chip is_chip ask.detour a b path).1 admissible)) one in
      Contains-flat_map (λ a. flat_map (candidates_between chip book ask crowded a) to) from a found
      candidate.allowed.sender
      (Contains-flat_map (candidates_between chip book ask crowded a) to b found
      candidate.allowed.receiver
      (subst (λ v. Contains (cond v [] (all_between a b)) found) (sym room) among))

  -- What is listed for a path is that path, with the slots that go with it.
  found-with : (a b : NiId) (path : List LinkId) (slots : Option Slots) (found : Found)
      → Contains (found_with a b path slots) found
      → (slots ≡ Some found.slots) × (found.from ≡ a) × (found.to ≡ b) × (found.path ≡ path)
  found-with a b path None found has = Contains-nil has
  found-with a b path (Some slots) found has = elim (Contains-cases _ [] found has) [
    | inl same ↦ (
      ap (λ (f : Found). Some f.slots) same,
      ap (λ (f : Found). f.from) (sym same),
      ap (λ (f : Found). f.to) (sym same),
      ap (λ (f : Found). f.path) (sym same),
    )
    | inr none ↦ Contains-nil none
  ]

  -- What is listed for a pair that isn't one crowded interface is a candidate.
  listed-between : (a b : NiId) (found : Found) (v : Bool) → is_crowded crowded a b ≡ v
      → Contains from a → Contains to b → Contains (cond v [] (all_between a b)) found
      → IsCandidate book ask from to crowded found
  listed-between a b found true room sends receives has = Contains-nil has
  listed-between a b found false room sends receives has =
      let (path, kept, inside) = flat_map-Contains (λ p. found_with a b p (slots_of book ask p))
      (filter (is_admissible chip ask.detour a b) (paths_of chip)) found has in
      let (listed, passes) = filter-Contains (is_admissible chip ask.detour a b) (paths_of chip)
      path kept in
      let (slots, begins, ends, same) = found-with a b path (slots_of book ask path) found inside in
      let one : IsOffered book ask crowded a b path = record {
        room = room;
        admissible =
            in_book a b path ((is_admissible-Decides chip is_chip ask.detour a b path).0 passes);
        live = slots-live book ask from to crowded (sized book is) path found.slots slots;
      } in
      let offered : OfferedFrom book ask crowded from to path = (a, sends, (b, receives, one)) in
      offered-candidate book ask from to crowded path found offered same begins ends slots

  -- What is listed is a candidate.
  listed-candidate : (found : Found) → Contains (candidates chip book ask from to crowded) found
      → IsCandidate book ask from to crowded found
  listed-candidate found has =
      let (a, sends, later) =
      flat_map-Contains (λ a. flat_map (candidates_between chip book ask crowded a) to) from found
      has in
      let (b, receives, between) =
      flat_map-Contains (candidates_between chip book ask crowded a) to found later in
      listed-between a b found (is_crowded crowded a b) refl sends receives between

  -- What the function gives is a candidate.
  pub first_candidate-is : (prices : List ℕ) (found : Found)
      → first_candidate chip book prices ask from to crowded ≡ Some found
      → IsCandidate book ask from to crowded found
  unfolding first_candidate
  first_candidate-is prices found is =
      listed-candidate found (first-some (link_cost book prices ask.unit) _ found is).0

  -- Where it gives none, nothing is a candidate.
  pub first_candidate-no : (prices : List ℕ)
      → first_candidate chip book prices ask from to crowded ≡ None
      → (other : Found) → IsCandidate book ask from to crowded other → ⊥
  unfolding first_candidate
  first_candidate-no prices none other candidate =
      first-none (link_cost book prices ask.unit) _ none other (candidate-listed other candidate)

  -- Where nothing is a candidate the function gives none.
  pub first_candidate-none : (prices : List ℕ)
      → ((other : Found) → IsCandidate book ask from to crowded other → ⊥)
      → first_candidate chip book prices ask from to crowded ≡ None
  unfolding first_candidate
  first_candidate-none prices never =
      let split : (o : Option Found)
      → first_candidate chip book prices ask from to crowded ≡ o → o ≡ None = elim [
        | None ↦ λ is. refl
        | Some found ↦ λ is. absurd (never found (first_candidate-is prices found is))
      ] in
      split _ refl

  -- What is first by the fact is what the function gives.
  pub first_candidate-some : (prices : List ℕ) (found : Found)
      → IsFirst book prices ask from to crowded found
      → first_candidate chip book prices ask from to crowded ≡ Some found
  unfolding first_candidate
  first_candidate-some prices found first =
      let cost = link_cost book prices ask.unit in
      let split : (o : Option Found)
      → first_candidate chip book prices ask from to crowded ≡ o → o ≡ Some found = elim [
        | None ↦ λ is. absurd (first_candidate-no prices is found first.candidate)
        | Some other ↦ λ is.
            let its = first-some cost _ other is in
            let also : IsFirst book prices ask from to crowded other = record {
              candidate = listed-candidate other its.0;
              first = λ third candidate.
                  not-less (path_order cost third.path other.path)
                  (its.1 third (candidate-listed third candidate));
            } in
            ap Some (first-unique book prices ask from to crowded other found also first)
      ] in
      split _ refl
