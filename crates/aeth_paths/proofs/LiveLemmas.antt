-- A list of links whose free starts are dead stays so, however it goes on.
use Rattle.std.proofs.Common.{◌≡◌, ◌∙◌, ◌+◌, ◌≤◌, ◌++◌, ◌%◌, ℕ, Bool, true, false, cond, not, List}
use Rattle.std.proofs.Common.{[], ◌∷◌, filter, Contains, sym, ap, subst, arith, append_assoc}
use Rattle.std.proofs.Common.{length, leb, max, IsTrue, ◌↔◌, le-leb, leb-true, append-nil}
use Rattle.std.proofs.lemmas.Bool.{both_ways, false_from_ne_true}
use Rattle.std.proofs.lemmas.List.Sums.{sum_by-append, sum_by-cons}
use Rattle.aeth_base.{specs.declared.ids.LinkId.LinkId, proofs.Members.Contains-map}
use Rattle.aeth_base.{proofs.TestLemmas.IsTrue_from_true, proofs.TestLemmas.true_from_IsTrue}
use Rattle.aeth_chip.specs.Paths.{delay_of, path_delay}
use Rattle.aeth_slots.specs.SlotSet.{Ascends, IsSlotSet, Slots, cyclic_distances, distances, gap_of}
use Rattle.aeth_slots.specs.SlotSet.{greatest}
use Rattle.aeth_slots.specs.Choice.{IsSuitable, is_suitable, sublists}
use Rattle.aeth_slots.proofs.ChoiceLemmas.{is_suitable-true, true-is_suitable, whole-suitable}
use Rattle.aeth_slots.proofs.Sublists.{sublists-itself, sublists-with, sublists-without}
use Rattle.aeth_slots.proofs.TestLemmas.{Ascends-where}
use Rattle.aeth_group.proofs.ListLemmas.{same_tests}
use Rattle.aeth_book.specs.Book.{BookData, IsBook}
use Rattle.aeth_book.specs.Free.{free_starts, is_open, is_taken, narrowed}
use Rattle.aeth_book.proofs.FreeLemmas.{free-push}
use Rattle.aeth_paths.specs.{declared.request.Request.Request, Candidates.gap_on}
use Rattle.aeth_paths.specs.{Candidates.is_live, Trials.IsSized}

-- The tables of a book are sized.
pub sized : (book : BookData) → IsBook book → IsSized book
sized book is = record { some_size = is.some_size; within = is.within }

-- What a filter leaves is a sublist.
filter-sublist : (test : ℕ → Bool) (xs : List ℕ) → Contains (sublists xs) (filter test xs)
filter-sublist test [] = sublists-itself []
filter-sublist test (x ∷ xs) =
    let rest = filter-sublist test xs in
    let go : (b : Bool)
    → Contains (sublists (x ∷ xs)) (cond b (x ∷ filter test xs) (filter test xs)) =
    elim [
      | true ↦ sublists-with x xs (filter test xs) rest
      | false ↦ sublists-without x xs (filter test xs) rest
    ]
    in go (test x)

-- The free starts of a path are a slot set.
pub free_starts-set : (book : BookData) (ask : Request) (path : List LinkId) → IsSized book
    → IsSlotSet (free_starts book ask.unit path)
free_starts-set book ask path is = record {
  some_size = is.some_size;
  within = is.within;
  ascends = Ascends-where book.size (is_open book ask.unit 0 path);
}

-- No distance between the slots of a table is greater than its size.
distances-within : (first size from : ℕ) (rest : List ℕ) → first ≤ from
    → Ascends (from + 1) size rest → greatest (distances from rest (first + size)) ≤ size
distances-within first size from [] after asc = omega (arith, after)
distances-within first size from (next ∷ rest) after (low, below, asc) =
    let on = distances-within first size next rest (omega (arith, after, low)) asc in
    omega (arith, on, below)

pub gap-within : (set : Slots) → IsSlotSet set → gap_of set ≤ set.size
gap-within set is =
    let go : (slots : List ℕ) → Ascends 0 set.size slots
    → greatest (cyclic_distances set.size slots) ≤ set.size =
    elim [
      | [] ↦ λ asc. omega arith
      | (first ∷ rest) ↦ λ asc. distances-within first set.size first rest (omega arith) asc.2
    ]
    in go set.slots is.ascends

-- What `suitable` tells is what the test gives.
pub suitable-told : (set : Slots) (need gap : ℕ) (told : Bool)
    → (IsTrue told ↔ IsSuitable need gap set) → told ≡ is_suitable need gap set
suitable-told set need gap told tells =
    same_tests told (is_suitable need gap set)
    (λ yes'. true-is_suitable need gap set (tells.0 (IsTrue_from_true told yes')))
    (λ yes'. true_from_IsTrue told (tells.1 (is_suitable-true need gap set yes')))

-- Where a gap may be as great as the table, it is enough that there are enough slots.
pub suitable-wide : (set : Slots) (need gap : ℕ) → IsSlotSet set → set.size ≤ gap
    → leb (max need 1) (length set.slots) ≡ is_suitable need gap set
suitable-wide set need gap is wide =
    let within = gap-within set is in
    same_tests (leb (max need 1) (length set.slots)) (is_suitable need gap set)
    (λ yes'. let many = leb-true (max need 1) (length set.slots) yes' in
    true-is_suitable need gap set (record {
      some = omega arith;
      enough = omega arith;
      near = omega arith;
    }))
    (λ yes'. let suitable = is_suitable-true need gap set yes' in
    le-leb (max need 1) (length set.slots)
    (omega (arith, suitable.some, suitable.enough)))

-- A path's delay with one more link.
pub path_delay-push : (book : BookData) (path : List LinkId) (link : LinkId)
    → path_delay book.links (path ++ link ∷ [])
    ≡ path_delay book.links path + delay_of book.links link
path_delay-push book path link =
    sum_by-append (delay_of book.links) path (link ∷ [])
    ∙ ap (λ n. path_delay book.links path + n)
    (sum_by-cons (delay_of book.links) link [] ∙ omega arith)

-- With one more link no slots become suitable.
dead-push : (book : BookData) (ask : Request) (path : List LinkId) (link : LinkId) → IsSized book
    → is_live book ask path ≡ false → is_live book ask (path ++ link ∷ []) ≡ false
dead-push book ask path link is dead =
    let free : Slots = free_starts book ask.unit path in
    let fewer : Slots = narrowed book ask.unit link.0 (path_delay book.links path) free in
    let same : fewer ≡ free_starts book ask.unit (path ++ link ∷ []) =
    free-push book ask.unit path link in
    let longer = path_delay-push book path link in
    false_from_ne_true (is_live book ask (path ++ link ∷ [])) (λ live.
    let is_suitable' = is_suitable-true ask.need (gap_on book ask (path ++ link ∷ [])) fewer
    (subst (λ (s : Slots). is_suitable ask.need (gap_on book ask (path ++ link ∷ [])) s ≡ true)
    (sym same) live) in
    let suitable : IsSuitable ask.need (gap_on book ask path) fewer = record {
      some = is_suitable'.some;
      enough = is_suitable'.enough;
      near = omega (arith, is_suitable'.near, longer);
    } in
    both_ways _ dead (true-is_suitable ask.need (gap_on book ask path) free
    (whole-suitable free ask.need (gap_on book ask path) fewer (free_starts-set book ask path is)
    (Contains-map (λ slots. record { size = book.size; slots = slots }) (sublists free.slots)
    fewer.slots
    (filter-sublist (λ x. not (is_taken book ask.unit link.0
    ((x + path_delay book.links path) % book.size))) free.slots)) suitable)))

-- With any further links none do.
pub dead-stays : (book : BookData) (ask : Request) (path rest : List LinkId) → IsSized book
    → is_live book ask path ≡ false → is_live book ask (path ++ rest) ≡ false
dead-stays book ask path [] is dead = rw (append-nil path) dead
dead-stays book ask path (link ∷ rest) is dead =
    rw (← append_assoc path (link ∷ []) rest)
    (dead-stays book ask (path ++ link ∷ []) rest is (dead-push book ask path link is dead))
