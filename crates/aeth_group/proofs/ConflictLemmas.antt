-- Laws of conflicts: grants conflict exactly where a use case has both at one slot of one link.
use Rattle.std.proofs.Common.{◌≡◌, ◌∙◌, ◌&&◌, ◌==◌, ℕ, Bool, true, List, Some, slice_get, sym, ap}
use Rattle.std.proofs.Common.{inl, inr, eqb-true}
use Rattle.std.proofs.lemmas.Bool.{and_from, and_parts, false≢true}
use Rattle.std.proofs.lemmas.Option.{slice_get-get_or, slice_get_cases}
use Rattle.aeth_chip.specs.declared.node.Link.{Link}
use Rattle.aeth_app.specs.App.{is_marked}
use Rattle.aeth_group.specs.Conflict.{Conflict, IsHeldTwice}
use Rattle.aeth_group.specs.declared.grant.Grant.{Grant}
use Rattle.aeth_group.specs.Members.{GroupsData, UseGroupData, are_together, group_at, group_in}
use Rattle.aeth_group.specs.Members.{has_at, has_unit, use_has}
use Rattle.aeth_group.specs.Occupation.{Occupies, holds_in, occupies}
use Rattle.aeth_group.proofs.ListLemmas.{any_from_passes, passes_from_any}
use Rattle.aeth_group.proofs.OccupationLemmas.{occupies-Decides}

-- A use case of a group that has two connections.
record HasTwo (groups : GroupsData) (g c d : ℕ) : Type 0 where
  use_case : ℕ
  group : (group_at groups use_case == g) ≡ true
  first : has_at groups use_case c ≡ true
  second : has_at groups use_case d ≡ true

-- Where connections are together, a use case of the group has both.
two_from_together : (groups : GroupsData) (g c d : ℕ) → are_together groups g c d ≡ true
    → HasTwo groups g c d
two_from_together groups g c d together =
    let test : UseGroupData → Bool =
    λ one. one.group == g && is_marked one.has c && is_marked one.has d in
    let some = passes_from_any test groups.uses together in
    let one = some.item in
    let at : slice_get groups.uses some.is_in.0 ≡ Some one =
    slice_get-get_or groups.uses some.is_in.0 one some.is_in.1 ∙ ap Some some.is_in.2 in
    let outer = and_parts (one.group == g && is_marked one.has c) (is_marked one.has d)
    some.passes in
    let inner = and_parts (one.group == g) (is_marked one.has c) outer.0 in
    record {
      use_case = some.is_in.0;
      group = ap (λ o. group_in o == g) at ∙ inner.0;
      first = ap (λ o. use_has o c) at ∙ inner.1;
      second = ap (λ o. use_has o d) at ∙ outer.1;
    }

-- Where a use case of the group has both, they are together.
together_from_two : (groups : GroupsData) (g c d : ℕ) → HasTwo groups g c d
    → are_together groups g c d ≡ true
together_from_two groups g c d two =
    elim ((slice_get_cases groups.uses two.use_case).1) [
      | inl found ↦
          let one = found.0 in
          let at = found.2 in
          let group : (one.group == g) ≡ true =
          ap (λ o. group_in o == g) (sym at) ∙ two.group in
          let first : is_marked one.has c ≡ true = ap (λ o. use_has o c) (sym at) ∙ two.first in
          let second : is_marked one.has d ≡ true =
          ap (λ o. use_has o d) (sym at) ∙ two.second in
          any_from_passes (λ one. one.group == g && is_marked one.has c && is_marked one.has d)
          groups.uses one (two.use_case, found.1, found.3)
          (and_from (one.group == g && is_marked one.has c) (is_marked one.has d)
          (and_from (one.group == g) (is_marked one.has c) group first) second)
      | inr past ↦ absurd (false≢true (sym (ap (λ o. use_has o c) past.1) ∙ two.first))
    ]

-- The parts of a grant that is held in a use case.
record IsHeld (groups : GroupsData) (links : List Link) (u l s : ℕ) (a : Grant) : Type 0 where
  has : has_at groups u a.unit.conn.0 ≡ true
  group : (group_at groups u == a.unit.group.0) ≡ true
  occupied : Occupies links a l s

held_parts : (groups : GroupsData) (links : List Link) (u l s : ℕ) (a : Grant)
    → holds_in groups links u l s a ≡ true → IsHeld groups links u l s a
held_parts groups links u l s a held =
    let outer = and_parts (has_unit groups a.unit u) (occupies links a l s) held in
    let inner = and_parts (has_at groups u a.unit.conn.0) (group_at groups u == a.unit.group.0)
    outer.0 in
    record {
      has = inner.0;
      group = inner.1;
      occupied = (occupies-Decides links a l s).0 outer.1;
    }

held_from : (groups : GroupsData) (links : List Link) (u l s : ℕ) (a : Grant)
    → IsHeld groups links u l s a → holds_in groups links u l s a ≡ true
held_from groups links u l s a held =
    and_from (has_unit groups a.unit u) (occupies links a l s)
    (and_from (has_at groups u a.unit.conn.0) (group_at groups u == a.unit.group.0) held.has
    held.group) ((occupies-Decides links a l s).1 held.occupied)

-- Grants that conflict are held in a use case at one slot of one link.
pub held_from_conflict : (groups : GroupsData) (links : List Link) (a b : Grant)
    → Conflict groups links a b → IsHeldTwice groups links a b
held_from_conflict groups links a b conflict =
    let two = two_from_together groups a.unit.group.0 a.unit.conn.0 b.unit.conn.0
    conflict.together in
    let u = two.use_case in
    record {
      use_case = u;
      link = conflict.link;
      slot = conflict.slot;
      first = held_from groups links u conflict.link conflict.slot a
          (record { has = two.first; group = two.group; occupied = conflict.first });
      second = held_from groups links u conflict.link conflict.slot b (record {
        has = two.second;
        group = ap (λ g. group_at groups u == g) (sym conflict.one_group) ∙ two.group;
        occupied = conflict.second;
      });
    }

-- Grants that are held in a use case at one slot of one link conflict.
pub conflict_from_held : (groups : GroupsData) (links : List Link) (a b : Grant)
    → IsHeldTwice groups links a b → Conflict groups links a b
conflict_from_held groups links a b held =
    let u = held.use_case in
    let first = held_parts groups links u held.link held.slot a held.first in
    let second = held_parts groups links u held.link held.slot b held.second in
    record {
      one_group = sym (eqb-true (group_at groups u) a.unit.group.0 first.group)
          ∙ eqb-true (group_at groups u) b.unit.group.0 second.group;
      together = together_from_two groups a.unit.group.0 a.unit.conn.0 b.unit.conn.0 (record {
        use_case = u;
        group = first.group;
        first = first.has;
        second = second.has;
      });
      link = held.link;
      slot = held.slot;
      first = first.occupied;
      second = second.occupied;
    }

-- A conflict is mutual.
pub conflict-sym : (groups : GroupsData) (links : List Link) (a b : Grant)
    → Conflict groups links a b → Conflict groups links b a
conflict-sym groups links a b conflict =
    let held = held_from_conflict groups links a b conflict in
    conflict_from_held groups links b a (record {
      use_case = held.use_case;
      link = held.link;
      slot = held.slot;
      first = held.second;
      second = held.first;
    })
