-- Rows that are made of others, and their places.
use Rattle.std.proofs.Common.{◌≡◌, ◌+◌, ◌-◌, ◌==◌, ◌∙◌, ℕ, List, [], ◌∷◌, ap, arith, filter, length}
use Rattle.std.proofs.Common.{map, nat_lt, subst, sym, slice_range}
use Rattle.std.proofs.lemmas.List.{get_or-map, length-map}
use Rattle.std.proofs.lemmas.Slice.Zip.{firsts-zip, seconds-zip}
use Rattle.std.specs.List.{zip, Sorted.IsNonDecreasing, Sorted.IsNonDecreasingBy}
use Rattle.aeth_base.proofs.Filters.{filter-map}
use Rattle.aeth_components.specs.declared.event.Event.{Event}
use Rattle.aeth_schedule.proofs.Ranges.{range-map}
use Rattle.aeth_network.{specs.Behind.IsBehind, specs.Behind.passed, proofs.Passed.passed-range}

-- Rows lie before a cycle as what is made of them does.
pub passed-mapped : {X Y : Type 0} (f : X → Y) (key : Y → ℕ) (t : ℕ) (xs : List X)
    → passed key t (map f xs) ≡ passed (λ x. key (f x)) t xs
passed-mapped f key t xs =
    ap length (filter-map (λ y. nat_lt (key y) t) f xs)
    ∙ length-map (filter (λ x. nat_lt (key (f x)) t) xs) f

pub rises-mapped : {X Y : Type 0} (f : X → Y) (key : Y → ℕ) (xs : List X)
    → IsNonDecreasingBy key (map f xs) → IsNonDecreasingBy (λ x. key (f x)) xs
rises-mapped f key xs rises = λ i j d le within.
    let size = length-map xs f in
    let one = ap key (get_or-map f xs i d (f d) (omega arith)) in
    let other = ap key (get_or-map f xs j d (f d) within) in
    let order = rises i j (f d) le (omega arith) in
    omega (arith, one, other, order)

pub behind-mapped : {X Y : Type 0} (f : X → Y) (key : Y → ℕ) (t : ℕ) (xs : List X) (from to : ℕ)
    → IsBehind (λ x. key (f x)) t xs from to → IsBehind key t (map f xs) from to
behind-mapped f key t xs from to is =
    let within = is.within in
    let size = length-map xs f in
    record {
      place = is.place ∙ sym (passed-mapped f key (t + 1) xs);
      after = is.after;
      within = omega arith;
      rows_are = range-map f xs from to ∙ ap (map f) is.rows_are
          ∙ sym (filter-map (λ y. key y == t) f xs);
    }

-- The events of a cycle are those between its places, where each has its cycle beside it.
pub events-range : (t : ℕ) (cycles : List ℕ) (events : List Event) → length cycles ≡ length events
    → IsNonDecreasing cycles
    → slice_range events (passed (λ cycle. cycle) t cycles) (passed (λ cycle. cycle) (t + 1) cycles)
    ≡ map (λ timed. timed.1) (filter (λ timed. timed.0 == t) (zip cycles events))
events-range t cycles events size rises =
    let both = zip cycles events in
    let at = λ (timed : ℕ × Event). timed.0 in
    let own = λ (timed : ℕ × Event). timed.1 in
    let same = λ (cycle : ℕ). cycle in
    let firsts : map at both ≡ cycles = firsts-zip cycles events (sym size) in
    let seconds : map own both ≡ events = seconds-zip cycles events (sym size) in
    let from = passed at t both in
    let to = passed at (t + 1) both in
    let first : from ≡ passed same t cycles =
    sym (passed-mapped at same t both) ∙ ap (passed same t) firsts in
    let last : to ≡ passed same (t + 1) cycles =
    sym (passed-mapped at same (t + 1) both) ∙ ap (passed same (t + 1)) firsts in
    let rising = rises-mapped at same both (subst (IsNonDecreasingBy same) (sym firsts) rises) in
    rw (← first, ← last)
    (ap (λ (list : List Event). slice_range list from to) (sym seconds)
    ∙ range-map own both from to ∙ ap (map own) (passed-range at t both rising))

-- Lists whose keys are the same have as many before a cycle.
pub passed-keyed : {X Y : Type 0} (one : X → ℕ) (other : Y → ℕ) (t : ℕ) (xs : List X) (ys : List Y)
    → map one xs ≡ map other ys → passed one t xs ≡ passed other t ys
passed-keyed one other t xs ys same =
    let key = λ (n : ℕ). n in
    sym (passed-mapped one key t xs) ∙ ap (passed key t) same ∙ passed-mapped other key t ys

-- If those of one don't fall, those of the other don't.
rises-whole : {X Y : Type 0} (f : X → Y) (key : Y → ℕ) (xs : List X)
    → IsNonDecreasingBy (λ x. key (f x)) xs → IsNonDecreasingBy key (map f xs)
rises-whole f key [] rises = λ i j d le within. absurd (omega arith)
rises-whole f key (x ∷ xs) rises = λ i j d le within.
    let size = length-map (x ∷ xs) f in
    let one = ap key (get_or-map f (x ∷ xs) i x d (omega arith)) in
    let other = ap key (get_or-map f (x ∷ xs) j x d (omega arith)) in
    let order = rises i j x le (omega arith) in
    omega (arith, one, other, order)

pub rises-keyed : {X Y : Type 0} (one : X → ℕ) (other : Y → ℕ) (xs : List X) (ys : List Y)
    → map one xs ≡ map other ys → IsNonDecreasingBy other ys → IsNonDecreasingBy one xs
rises-keyed one other xs ys same rises =
    let key = λ (n : ℕ). n in
    rises-mapped one key xs (subst (IsNonDecreasingBy key) (sym same) (rises-whole other key ys rises))

-- There are as many.
pub length-keyed : {X Y : Type 0} (one : X → ℕ) (other : Y → ℕ) (xs : List X) (ys : List Y)
    → map one xs ≡ map other ys → length xs ≡ length ys
length-keyed one other xs ys same =
    sym (length-map xs one) ∙ ap length same ∙ length-map ys other

-- The places of a cycle in one are those in the other.
pub behind-keyed : {X Y : Type 0} (one : X → ℕ) (other : Y → ℕ) (t : ℕ) (xs : List X) (ys : List Y)
    (from to : ℕ) → map one xs ≡ map other ys → IsNonDecreasingBy other ys
    → from ≡ passed other t ys → IsBehind one t xs from to → IsBehind other t ys from to
behind-keyed one other t xs ys from to same rises first is =
    let size = length-keyed one other xs ys same in
    let within = is.within in
    let last = is.place ∙ passed-keyed one other (t + 1) xs ys same in
    record {
      place = last;
      after = is.after;
      within = omega arith;
      rows_are = rw (first, last) (passed-range other t ys rises);
    }
