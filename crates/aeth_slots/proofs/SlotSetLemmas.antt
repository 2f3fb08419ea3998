-- Laws of slot sets: the slots of a set that was rotated or met, equal sets, and the greatest of a
-- list with one more number.
use Rattle.std.proofs.Common.{ℕ, ◌+◌, ◌%◌, ◌≡◌, ◌↔◌, ◌++◌, eqb, map, max, List, [], ◌∷◌, Contains}
use Rattle.std.proofs.Common.{sym, ap, subst, arith, eqb-true, eq-eqb}
use Rattle.std.proofs.lemmas.{Bool.and_from, Bool.and_parts, Slice.Eq.bytes_eq-Decides}
use Rattle.std.specs.{List.list_any, Bool.Decides}
use Rattle.aeth_slots.specs.SlotSet.{Slots, same_set, rotated, common, greatest}
use Rattle.aeth_slots.proofs.Ascending.{Contains-ascending, ascending-Contains}
use Rattle.aeth_base.proofs.Members.{Contains-map, Contains-list_any, list_any-Contains}
use Rattle.aeth_base.proofs.Members.{map-Contains, Contains-filter, filter-Contains}

-- The slots of a rotated set are those that are so many on from a slot of the set.
pub Contains-rotated : (by : ℕ) (set : Slots) (t : ℕ)
    → Contains (rotated by set).slots t
    ↔ ((s : ℕ) × Contains set.slots s × (t ≡ (s + by) % set.size))
Contains-rotated by set t = (
  (λ has. let found =
      map-Contains (λ s. (s + by) % set.size) set.slots t
      (ascending-Contains (map (λ s. (s + by) % set.size) set.slots) t has) in
      (found.0, found.2, sym found.1)),
  (λ (s, has, at). subst (λ (k : ℕ). Contains (rotated by set).slots k) (sym at)
      (Contains-ascending (map (λ u. (u + by) % set.size) set.slots) ((s + by) % set.size)
      (Contains-map (λ u. (u + by) % set.size) set.slots s has))),
)

-- The slots that two sets have in common are those that are in both.
pub Contains-common : (set other : Slots) (s : ℕ)
    → Contains (common set other).slots s ↔ (Contains set.slots s × Contains other.slots s)
Contains-common set other s = (
  (λ has. let found = filter-Contains (λ u. list_any (λ t. eqb t u) other.slots) set.slots s has in
      (found.0, list_any-Contains other.slots s found.1)),
  (λ (has, has'). Contains-filter (λ u. list_any (λ t. eqb t u) other.slots) set.slots s has
      (Contains-list_any other.slots s has')),
)

-- The test of `==` says that two sets are equal.
pub same_set-Decides : (set other : Slots) → Decides (same_set set other) (set ≡ other)
same_set-Decides set other = (
  (λ test. let (sizes, slots) = and_parts (eqb set.size other.size) _ test in
      let size : set.size ≡ other.size = eqb-true set.size other.size sizes in
      let same : set.slots ≡ other.slots = (bytes_eq-Decides set.slots other.slots).0 slots in
      λ i. record { size = size i; slots = same i }),
  (λ same. and_from (eqb set.size other.size) _
      (eq-eqb set.size other.size (ap (λ (s : Slots). s.size) same))
      ((bytes_eq-Decides set.slots other.slots).1 (ap (λ (s : Slots). s.slots) same))),
)

-- The greatest of one number more.
pub greatest-push : (xs : List ℕ) (x : ℕ) → greatest (xs ++ x ∷ []) ≡ max (greatest xs) x
greatest-push [] x = omega arith
greatest-push (y ∷ xs) x = let rest = greatest-push xs x in omega (arith, rest)
