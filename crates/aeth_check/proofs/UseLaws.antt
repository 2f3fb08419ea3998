-- The use cases of a unit's group, one after the other: whether flits meet in one of them, and where
-- flits change masks.
use Rattle.std.proofs.Common.{◌≡◌, ◌∙◌, ◌<◌, ◌≤◌, ◌+◌, ◌*◌, ◌&&◌, ◌||◌, ℕ, Bool, true, false, eqb}
use Rattle.std.proofs.Common.{ltb, List, [], ◌∷◌, length, get_or, take, refl, sym, ap, arith, inl}
use Rattle.std.proofs.Common.{inr, eq-eqb, lt-ltb, ne_eqb}
use Rattle.std.proofs.Math.{Nat.mul-le-mul_right, Bool.or-false}
use Rattle.std.proofs.lemmas.Bool.{and_parts, cases_Bool, cases_eq}
use Rattle.std.proofs.lemmas.List.{take_more, Folds.list_any-append}
use Rattle.std.specs.List.{list_any, range_with_len}
use Rattle.aeth_base.specs.declared.ids.{LinkId.LinkId, Unit.Unit as GroupUnit}
use Rattle.aeth_base.proofs.Members.{Contains-filter, Contains-list_any}
use Rattle.aeth_base.proofs.Ranges.{Contains-range}
use Rattle.aeth_chip.specs.declared.node.Link.{Link}
use Rattle.aeth_slots.specs.SlotSet.{Slots}
use Rattle.aeth_group.specs.{Members.GroupsData, Members.group_at, Members.has_unit}
use Rattle.aeth_group.specs.{Occupation.enters, Rows.uses_of, Tables.Changes, Tables.hits_row}
use Rattle.aeth_group.specs.{Tables.hits_uses, declared.grant.Grant.Grant}
use Rattle.aeth_group.proofs.RowLemmas.{any-uses_of, group-has_unit, use_is_there}
use Rattle.aeth_group.proofs.TableLemmas.{changes-same, changes-then}
use Rattle.aeth_check.specs.Meetings.{meets, touches}

-- A use case that has a unit has a row in a table of all use cases.
pub has_row : (groups : GroupsData) (unit : GroupUnit) (u links : ℕ)
    → has_unit groups unit u ≡ true → u * links + links ≤ length groups.uses * links
has_row groups unit u links has =
    let there = use_is_there groups unit u has in
    let all : (u + 1) * links ≤ length groups.uses * links =
    mul-le-mul_right links (omega (arith, there)) in
    omega (arith, all)

-- Whether flits meet is decided by the use cases of the group.
pub touches-uses_of : (links : List Link) (groups : GroupsData) (test : ℕ → ℕ → ℕ → Bool)
    (grant : Grant)
    → list_any (λ u. has_unit groups grant.unit u && meets (test u) grant.slots links 0 grant.path)
    (uses_of groups grant.unit.group.0)
    ≡ touches links groups test grant
touches-uses_of links groups test grant =
    any-uses_of groups grant.unit.group.0 _ (λ u both.
    group-has_unit groups grant.unit u
    (and_parts (has_unit groups grant.unit u) (meets (test u) grant.slots links 0 grant.path)
    both).0)

-- Whether flits enter a link in a slot along a path, in one of these use cases that has a unit.
abbrev pub hits_those : Slots → List Link → GroupsData → GroupUnit → List LinkId → List ℕ → ℕ → ℕ → ℕ
    → Bool
hits_those starts links groups unit path uses v l s =
    list_any (λ u. eqb u v) uses && (has_unit groups unit v && enters starts links 0 path l s)

-- One use case more, at the end.
any-more : (uses : List ℕ) (i v : ℕ) → i < length uses
    → list_any (λ u. eqb u v) (take (i + 1) uses)
    ≡ (list_any (λ u. eqb u v) (take i uses) || eqb (get_or uses i 0) v)
any-more uses i v within =
    ap (list_any (λ u. eqb u v)) (take_more uses i 0 within)
    ∙ list_any-append (λ u. eqb u v) (take i uses) (get_or uses i 0 ∷ [])
    ∙ ap (λ b. list_any (λ u. eqb u v) (take i uses) || b) (or-false (eqb (get_or uses i 0) v))

join-hit : (a e : Bool) → ((a && (true && e)) || (true && e)) ≡ ((a || true) && (true && e))
join-hit true true = refl
join-hit true false = refl
join-hit false e = refl

with-use : (has : ℕ → Bool) (a e : Bool) (u v : ℕ) → has u ≡ true
    → ((a && (has v && e)) || (eqb v u && e)) ≡ ((a || eqb u v) && (has v && e))
with-use has a e u v is = elim (cases_eq v u) [
  | inl same ↦ rw same (rw (eq-eqb u u refl, is) (join-hit a e))
  | inr other ↦
      rw (ne_eqb v u other, ne_eqb u v (λ same. other (sym same)), or-false a)
      (or-false (a && (has v && e)))
]

and-none : (a e : Bool) → (a && (false && e)) ≡ ((a || true) && (false && e))
and-none true e = refl
and-none false e = refl

without-use : (has : ℕ → Bool) (a e : Bool) (u v : ℕ) → has u ≡ false
    → (a && (has v && e)) ≡ ((a || eqb u v) && (has v && e))
without-use has a e u v is = elim (cases_eq v u) [
  | inl same ↦ rw same (rw (eq-eqb u u refl, is) (and-none a e))
  | inr other ↦ rw (ne_eqb u v (λ same. other (sym same)), or-false a) refl
]

module _ (size : ℕ) (starts : Slots) (links : List Link) (groups : GroupsData) (unit : GroupUnit)
    (path : List LinkId) (uses : List ℕ) (i : ℕ) (put : Bool) (old now : List Slots)
    (within : i < length uses)
    (changes : Changes size (length links)
    (hits_those starts links groups unit path (take i uses)) put old now) where
  -- One more use case has changed, which has the unit.
  pub those_step : (new : List Slots) → has_unit groups unit (get_or uses i 0) ≡ true
      → Changes size (length links) (hits_row starts links (get_or uses i 0) path) put now new
      → Changes size (length links)
      (hits_those starts links groups unit path (take (i + 1) uses)) put old new
  those_step new has row =
      changes-same size (length links) _
      (hits_those starts links groups unit path (take (i + 1) uses)) put old new
      (changes-then size (length links) (hits_those starts links groups unit path (take i uses))
      (hits_row starts links (get_or uses i 0) path) put old now new changes row)
      (λ v l s low inside below.
      with-use (has_unit groups unit) (list_any (λ u. eqb u v) (take i uses))
      (enters starts links 0 path l s) (get_or uses i 0) v has
      ∙ ap (λ b. b && (has_unit groups unit v && enters starts links 0 path l s))
      (sym (any-more uses i v within)))

  -- One that doesn't have it has not.
  pub those_skip : has_unit groups unit (get_or uses i 0) ≡ false
      → Changes size (length links)
      (hits_those starts links groups unit path (take (i + 1) uses)) put old now
  those_skip lacks =
      changes-same size (length links) (hits_those starts links groups unit path (take i uses))
      (hits_those starts links groups unit path (take (i + 1) uses)) put old now changes
      (λ v l s low inside below.
      without-use (has_unit groups unit) (list_any (λ u. eqb u v) (take i uses))
      (enters starts links 0 path l s) (get_or uses i 0) v lacks
      ∙ ap (λ b. b && (has_unit groups unit v && enters starts links 0 path l s))
      (sym (any-more uses i v within)))

both-false : (a b : Bool) → (a && false) ≡ (b && false)
both-false true true = refl
both-false true false = refl
both-false false true = refl
both-false false false = refl

-- A use case that has the unit is one of those of its group.
in_group : (groups : GroupsData) (unit : GroupUnit) (v : ℕ) → has_unit groups unit v ≡ true
    → list_any (λ u. eqb u v) (uses_of groups unit.group.0) ≡ true
in_group groups unit v has =
    let there = use_is_there groups unit v has in
    Contains-list_any (uses_of groups unit.group.0) v
    (Contains-filter (λ u. eqb (group_at groups u) unit.group.0)
    (range_with_len 0 (length groups.uses)) v
    (Contains-range 0 (length groups.uses) v (omega arith) (omega (arith, there)))
    (group-has_unit groups unit v has))

-- Those of the group are all that have the unit.
pub those-uses_of : (size : ℕ) (starts : Slots) (links : List Link) (groups : GroupsData)
    (unit : GroupUnit) (path : List LinkId) (put : Bool) (old new : List Slots)
    → Changes size (length links)
    (hits_those starts links groups unit path (uses_of groups unit.group.0)) put old new
    → Changes size (length links)
    (hits_uses starts links groups unit path (length groups.uses)) put old new
those-uses_of size starts links groups unit path put old new changes =
    changes-same size (length links)
    (hits_those starts links groups unit path (uses_of groups unit.group.0))
    (hits_uses starts links groups unit path (length groups.uses)) put old new changes
    (λ v l s low inside below. elim (cases_Bool (has_unit groups unit v)) [
      | inl has ↦ rw (
        in_group groups unit v has,
        lt-ltb v (length groups.uses) (use_is_there groups unit v has),
      ) refl
      | inr lacks ↦ rw lacks
          (both-false (list_any (λ u. eqb u v) (uses_of groups unit.group.0))
          (ltb v (length groups.uses)))
    ])
