-- The choice of slots out of a free set: the lexicographically first among the suitable sets
-- of least size. It quantifies over all sublists of the free slots.
-- Suitable sets and the chosen one: this project's own.
--
--   IsSuitable, is_suitable     enough slots, none too far from the next; as a fact and as a test
--   sublists, subsets           every sublist of a list, every set of slots out of a set
--   choice_order, first_by      fewer slots first, then the lexicographic order
--   chosen, IsChosen            the chosen set as a function, and by what holds of it
use Rattle.std.proofs.Common.{ℕ, ◌≤◌, ◌≡◌, ◌≢◌, ◌&&◌, nat_le, Bool, List, [], ◌∷◌, ◌++◌, length}
use Rattle.std.proofs.Common.{map, filter, Contains, Option, Some, None}
use Rattle.std.specs.{List.best_of, declared.cmp.Ordering.Ordering}
use Rattle.std.specs.{declared.cmp.Ordering.TheVariants.Less, Ordering.nat_cmp, Ordering.on}
use Rattle.std.specs.{Ordering.then_cmp, Ordering.is_lt, Cmp.Lexicographic.slice_cmp}
use Rattle.aeth_slots.specs.SlotSet.{Slots, gap_of}

-- A set that isn't empty, has the slots that are needed, and has no gap above the limit.
pub record IsSuitable (need gap : ℕ) (set : Slots) : Type 0 where
  pub some : 1 ≤ length set.slots
  pub enough : need ≤ length set.slots
  pub near : gap_of set ≤ gap

-- The same as a test.
abbrev pub is_suitable : ℕ → ℕ → Slots → Bool
is_suitable need gap set =
    nat_le 1 (length set.slots) && nat_le need (length set.slots) && nat_le (gap_of set) gap

-- Every sublist of a list.
abbrev pub sublists : List ℕ → List (List ℕ)
sublists [] = [] ∷ []
sublists (x ∷ xs) = map (λ ys. x ∷ ys) (sublists xs) ++ sublists xs

-- Every set of slots out of a set.
abbrev pub subsets : Slots → List Slots
subsets free = map (λ slots. record { size = free.size; slots = slots }) (sublists free.slots)

-- Fewer slots come first, and of equally many the lexicographically first.
abbrev pub choice_order : Slots → Slots → Ordering
choice_order =
    then_cmp (on (λ set. length set.slots) nat_cmp) (on (λ set. set.slots) (slice_cmp nat_cmp))

-- The first item of a list by an order.
abbrev pub first_by : {A : Type 0} → (A → A → Ordering) → List A → Option A
first_by order [] = None
first_by order (x ∷ xs) = Some (best_of (λ a b. is_lt (order a b)) x xs)

-- The lexicographically first among the suitable subsets of least size, out of a free set.
unfoldable pub chosen : Slots → ℕ → ℕ → Option Slots
chosen free need gap = first_by choice_order (filter (is_suitable need gap) (subsets free))

-- The chosen set, by what holds of it: it is a suitable subset, no suitable subset has fewer
-- slots, and none that has as many comes lexicographically before it.
pub record IsChosen (free : Slots) (need gap : ℕ) (set : Slots) : Type 0 where
  pub subset : Contains (subsets free) set
  pub suitable : IsSuitable need gap set
  pub fewest : (other : Slots) → Contains (subsets free) other → IsSuitable need gap other
      → length set.slots ≤ length other.slots
  pub first : (other : Slots) → Contains (subsets free) other → IsSuitable need gap other
      → length other.slots ≡ length set.slots → slice_cmp nat_cmp other.slots set.slots ≢ Less
