-- Laws of use cases: the slots that are taken as those that are occupied in some use case of the
-- unit, and what a row of use cases occupies and uses.
use Rattle.std.proofs.Common.{◌≡◌, ◌∙◌, ◌<◌, ◌≤◌, ◌+◌, ◌++◌, ◌&&◌, ◌||◌, ℕ, Bool, true, false, eqb}
use Rattle.std.proofs.Common.{max, List, [], ◌∷◌, length, map, Contains, Some, slice_get, get_or}
use Rattle.std.proofs.Common.{refl, sym, ap, arith, filter, take, eq-eqb, eqb-true}
use Rattle.std.proofs.Math.Bool.{or-false}
use Rattle.std.proofs.lemmas.{Bool.and_from, Bool.and_parts, List.map-append, List.take_more}
use Rattle.std.proofs.lemmas.{List.Folds.list_any-append, Option.same_Some, Option.slice_get-get_or}
use Rattle.std.proofs.lemmas.{List.FromFn.length-range_with_len, List.Sums.count_by-le-length}
use Rattle.std.proofs.lemmas.{List.Sums.length-filter}
use Rattle.std.specs.List.{list_any, range_with_len}
use Rattle.aeth_base.{specs.declared.ids.Unit.Unit as GroupUnit, proofs.Filters.filter-none}
use Rattle.aeth_app.specs.App.{is_marked}
use Rattle.aeth_slots.specs.SlotSet.{Slots, greatest, has_slot, joined, slots_where}
use Rattle.aeth_slots.proofs.TestLemmas.{has_slot-where, where-same}
use Rattle.aeth_slots.proofs.SlotSetLemmas.{greatest-push}
use Rattle.aeth_group.specs.{declared.grant.Grant.Grant, Members.GroupsData, Members.UseGroupData}
use Rattle.aeth_group.specs.{Members.group_at, Members.has_at, Members.has_unit}
use Rattle.aeth_group.specs.{Occupation.holds_in, Occupation.occupies, Rows.uses_of}
use Rattle.aeth_group.proofs.Ranges.{any_from_passer, passer_from_any}
use Rattle.aeth_group.proofs.ListLemmas.{any_from_passes, passes_from_any, same_tests}
use Rattle.aeth_book.specs.{Book.BookData, Free.is_occupied, Free.is_rival, Free.is_taken}
use Rattle.aeth_book.specs.{Free.occupied_slots, Free.taken_slots, Free.used_slots, Free.uses_with}
use Rattle.aeth_book.proofs.FilterLemmas.{any-filter, filter-push, filter-same-more, filter_twice}

-- Whether a slot of a link is occupied in a use case that has the unit.
abbrev pub is_blocked : BookData → GroupUnit → ℕ → ℕ → Bool
is_blocked book unit l s =
    list_any (λ v. has_unit book.groups unit v && is_occupied book v l s)
    (range_with_len 0 (length book.groups.uses))

-- What a use case that has a unit is.
has_unit_at : (groups : GroupsData) (unit : GroupUnit) (v : ℕ) (one : UseGroupData)
    → slice_get groups.uses v ≡ Some one → has_unit groups unit v ≡ true
    → (is_marked one.has unit.conn.0 ≡ true) × (one.group ≡ unit.group.0)
has_unit_at groups unit v one is found =
    let (has, group) = and_parts (is_marked one.has unit.conn.0) (eqb one.group unit.group.0)
    (rw is at found) in
    (has, eqb-true _ _ group)

-- A use case of a unit's group with its connection has the unit.
has_unit_from : (groups : GroupsData) (unit : GroupUnit) (v : ℕ) (one : UseGroupData)
    → slice_get groups.uses v ≡ Some one → is_marked one.has unit.conn.0 ≡ true
    → one.group ≡ unit.group.0 → has_unit groups unit v ≡ true
has_unit_from groups unit v one is has group = rw is (and_from _ _ has (eq-eqb _ _ group))

blocked_from_taken : (book : BookData) (unit : GroupUnit) (l s : ℕ)
    → is_taken book unit l s ≡ true
    → is_blocked book unit l s ≡ true
blocked_from_taken book unit l s taken =
    let groups : GroupsData = book.groups in
    let rival = passes_from_any
    (λ grant. is_rival groups unit grant && occupies book.links grant l s) book.grants taken in
    let grant : Grant = rival.item in
    let (is, holds) = and_parts (is_rival groups unit grant) _ rival.passes in
    let (same, together) = and_parts (eqb grant.unit.group.0 unit.group.0) _ is in
    let shared = passes_from_any (λ (one : UseGroupData). eqb one.group unit.group.0
    && is_marked one.has grant.unit.conn.0 && is_marked one.has unit.conn.0) groups.uses
    together in
    let one : UseGroupData = shared.item in
    let (both, has) = and_parts _ (is_marked one.has unit.conn.0) shared.passes in
    let (group, has') = and_parts (eqb one.group unit.group.0) _ both in
    let at = shared.is_in in
    let found : slice_get groups.uses at.0 ≡ Some one =
    slice_get-get_or groups.uses at.0 one at.1 ∙ ap Some at.2 in
    let theirs : has_unit groups grant.unit at.0 ≡ true =
    has_unit_from groups grant.unit at.0 one found has'
    (eqb-true _ _ group ∙ sym (eqb-true _ _ same)) in
    any_from_passer (λ v. has_unit groups unit v && is_occupied book v l s)
    (length groups.uses) at.0 at.1
    (and_from _ _ (has_unit_from groups unit at.0 one found has (eqb-true _ _ group))
    (any_from_passes (holds_in groups book.links at.0 l s) book.grants grant rival.is_in
    (and_from _ _ theirs holds)))

-- A slot that is occupied in some use case that has the unit is taken.
pub taken_from_blocked : (book : BookData) (unit : GroupUnit) (l s : ℕ)
    → is_blocked book unit l s ≡ true
    → is_taken book unit l s ≡ true
taken_from_blocked book unit l s blocked =
    let groups : GroupsData = book.groups in
    let passer = passer_from_any (λ v. has_unit groups unit v && is_occupied book v l s)
    (length groups.uses) blocked in
    let v : ℕ = passer.number in
    let (ours, occupied) = and_parts (has_unit groups unit v) _ passer.passes in
    let rival = passes_from_any (holds_in groups book.links v l s) book.grants occupied in
    let grant : Grant = rival.item in
    let (theirs, holds) = and_parts (has_unit groups grant.unit v) _ rival.passes in
    let one : UseGroupData = get_or groups.uses v (record { group = 0; has = [] }) in
    let found : slice_get groups.uses v ≡ Some one =
    slice_get-get_or groups.uses v (record { group = 0; has = [] }) passer.below in
    let our = has_unit_at groups unit v one found ours in
    let their = has_unit_at groups grant.unit v one found theirs in
    let is_in : Contains groups.uses one = (
      v,
      passer.below,
      same_Some _ _ (sym (slice_get-get_or groups.uses v one passer.below) ∙ found),
    ) in
    any_from_passes (λ other. is_rival groups unit other && occupies book.links other l s)
    book.grants grant rival.is_in
    (and_from _ _ (and_from _ _ (eq-eqb _ _ (sym their.1 ∙ our.1))
    (any_from_passes (λ (other : UseGroupData). eqb other.group unit.group.0
    && is_marked other.has grant.unit.conn.0 && is_marked other.has unit.conn.0) groups.uses one
    is_in (and_from _ _ (and_from _ _ (eq-eqb _ _ our.1) their.0) our.0))) holds)

-- A slot is taken exactly where it is occupied in a use case that has the unit.
pub is_taken-blocked : (book : BookData) (unit : GroupUnit) (l s : ℕ)
    → is_blocked book unit l s ≡ is_taken book unit l s
is_taken-blocked book unit l s =
    same_tests _ _ (taken_from_blocked book unit l s) (blocked_from_taken book unit l s)

-- A slot is taken exactly where it is occupied in a use case that has the unit.
pub taken-uses : (book : BookData) (unit : GroupUnit) (l s : ℕ)
    → list_any (λ v. is_occupied book v l s) (uses_with book.groups unit) ≡ is_taken book unit l s
taken-uses book unit l s =
    any-filter (has_unit book.groups unit) (λ v. is_occupied book v l s)
    (range_with_len 0 (length book.groups.uses))
    ∙ is_taken-blocked book unit l s

absorbed : (a b : Bool) → (b && (a && b)) ≡ (a && b)
absorbed true true = refl
absorbed false true = refl
absorbed true false = refl
absorbed false false = refl

-- Those of its group that have its connection are the use cases that have the unit.
pub uses_of-with : (groups : GroupsData) (unit : GroupUnit)
    → filter (has_unit groups unit) (uses_of groups unit.group.0) ≡ uses_with groups unit
uses_of-with groups unit =
    filter_twice (λ u. eqb (group_at groups u) unit.group.0) (has_unit groups unit)
    (has_unit groups unit) (range_with_len 0 (length groups.uses))
    (λ u is_in. absorbed (has_at groups u unit.conn.0) (eqb (group_at groups u) unit.group.0))

-- The slots that the first use cases of a row occupy, if they have the unit.
abbrev pub joined_by : BookData → GroupUnit → ℕ → List ℕ → Slots
joined_by book unit l row =
    slots_where book.size
    (λ s. list_any (λ v. is_occupied book v l s) (filter (has_unit book.groups unit) row))

-- No use case occupies nothing.
pub joined_by-none : (book : BookData) (unit : GroupUnit) (l : ℕ)
    → record { size = book.size; slots = [] } ≡ joined_by book unit l []
joined_by-none book unit l = λ i. record {
  size = book.size;
  slots = sym (filter-none (range_with_len 0 book.size)) i;
}

-- One more use case of a row, that has the unit.
joined_by-push : (book : BookData) (unit : GroupUnit) (l : ℕ) (row : List ℕ) (u : ℕ)
    → has_unit book.groups unit u ≡ true
    → joined (joined_by book unit l row) (occupied_slots book u l)
    ≡ joined_by book unit l (row ++ u ∷ [])
joined_by-push book unit l row u has =
    let size : ℕ = book.size in
    let now : ℕ → Bool =
    λ s. list_any (λ v. is_occupied book v l s) (filter (has_unit book.groups unit) row) in
    where-same size
    (λ s. has_slot (slots_where size now) s || has_slot (occupied_slots book u l) s)
    (λ s. list_any (λ v. is_occupied book v l s)
    (filter (has_unit book.groups unit) (row ++ u ∷ [])))
    (λ s below.
    ap (λ b. b || has_slot (occupied_slots book u l) s) (has_slot-where size now s below)
    ∙ ap (λ b. now s || b) (has_slot-where size (is_occupied book u l) s below
    ∙ sym (or-false (is_occupied book u l s)))
    ∙ sym (list_any-append (λ v. is_occupied book v l s)
    (filter (has_unit book.groups unit) row) (u ∷ []))
    ∙ ap (list_any (λ v. is_occupied book v l s)) (sym (filter-push _ row u has)))

pub joined_by-more : (book : BookData) (unit : GroupUnit) (l : ℕ) (row : List ℕ) (i : ℕ)
    → i < length row → has_unit book.groups unit (get_or row i 0) ≡ true
    → joined (joined_by book unit l (take i row)) (occupied_slots book (get_or row i 0) l)
    ≡ joined_by book unit l (take (i + 1) row)
joined_by-more book unit l row i within has =
    joined_by-push book unit l (take i row) (get_or row i 0) has
    ∙ ap (joined_by book unit l) (sym (take_more row i 0 within))

-- One more that hasn't changes nothing.
pub joined_by-same : (book : BookData) (unit : GroupUnit) (l : ℕ) (row : List ℕ) (i : ℕ)
    → i < length row → has_unit book.groups unit (get_or row i 0) ≡ false
    → joined_by book unit l (take i row) ≡ joined_by book unit l (take (i + 1) row)
joined_by-same book unit l row i within lacks =
    ap (λ with. slots_where book.size (λ s. list_any (λ v. is_occupied book v l s) with))
    (sym (filter-same-more (has_unit book.groups unit) row i within lacks))

-- All use cases of its group together occupy what is taken.
pub joined_by-all : (book : BookData) (unit : GroupUnit) (l : ℕ)
    → joined_by book unit l (uses_of book.groups unit.group.0) ≡ taken_slots book unit l
joined_by-all book unit l =
    where-same book.size
    (λ s. list_any (λ v. is_occupied book v l s)
    (filter (has_unit book.groups unit) (uses_of book.groups unit.group.0)))
    (is_taken book unit l)
    (λ s below. ap (list_any (λ v. is_occupied book v l s)) (uses_of-with book.groups unit)
    ∙ taken-uses book unit l s)

-- The greatest number of slots that are used in a use case of a row that has the unit.
abbrev pub used_by : BookData → GroupUnit → ℕ → List ℕ → ℕ
used_by book unit l row =
    greatest (map (λ u. length (occupied_slots book u l).slots)
    (filter (has_unit book.groups unit) row))

-- One more use case of a row, that has the unit.
used_by-push : (book : BookData) (unit : GroupUnit) (l : ℕ) (row : List ℕ) (u : ℕ)
    → has_unit book.groups unit u ≡ true
    → used_by book unit l (row ++ u ∷ [])
    ≡ max (used_by book unit l row) (length (occupied_slots book u l).slots)
used_by-push book unit l row u has =
    let used : ℕ → ℕ = λ v. length (occupied_slots book v l).slots in
    let with : List ℕ = filter (has_unit book.groups unit) row in
    ap (λ us. greatest (map used us)) (filter-push (has_unit book.groups unit) row u has)
    ∙ ap greatest (map-append used with (u ∷ []))
    ∙ greatest-push (map used with) (used u)

pub used_by-more : (book : BookData) (unit : GroupUnit) (l : ℕ) (row : List ℕ) (i : ℕ)
    → i < length row → has_unit book.groups unit (get_or row i 0) ≡ true
    → used_by book unit l (take (i + 1) row)
    ≡ max (used_by book unit l (take i row)) (length (occupied_slots book (get_or row i 0) l).slots)
used_by-more book unit l row i within has =
    ap (used_by book unit l) (take_more row i 0 within)
    ∙ used_by-push book unit l (take i row) (get_or row i 0) has

-- One more that hasn't changes nothing.
pub used_by-same : (book : BookData) (unit : GroupUnit) (l : ℕ) (row : List ℕ) (i : ℕ)
    → i < length row → has_unit book.groups unit (get_or row i 0) ≡ false
    → used_by book unit l (take i row) ≡ used_by book unit l (take (i + 1) row)
used_by-same book unit l row i within lacks =
    ap (λ with. greatest (map (λ u. length (occupied_slots book u l).slots) with))
    (sym (filter-same-more (has_unit book.groups unit) row i within lacks))

-- In all use cases of its group that have the unit.
pub used_by-all : (book : BookData) (unit : GroupUnit) (l : ℕ)
    → used_by book unit l (uses_of book.groups unit.group.0) ≡ used_slots book unit l
used_by-all book unit l =
    ap (λ with. greatest (map (λ u. length (occupied_slots book u l).slots) with))
    (uses_of-with book.groups unit)

greatest-within : (most : ℕ → ℕ) (us : List ℕ) (bound : ℕ) → ((u : ℕ) → most u ≤ bound)
    → greatest (map most us) ≤ bound
greatest-within most [] bound each = omega arith
greatest-within most (u ∷ us) bound each =
    omega (arith, each u, greatest-within most us bound each)

-- No more slots are used than a table has.
pub used_slots-within : (book : BookData) (unit : GroupUnit) (l : ℕ)
    → used_slots book unit l ≤ book.size
used_slots-within book unit l =
    greatest-within (λ u. length (occupied_slots book u l).slots) (uses_with book.groups unit)
    book.size (λ u. let all : List ℕ = range_with_len 0 book.size in
    omega (
      arith,
      length-filter (is_occupied book u l) all,
      count_by-le-length (is_occupied book u l) all,
      length-range_with_len 0 book.size,
    ))
