-- Two grants pass the test of conflicts exactly where they conflict.
use Rattle.std.proofs.Common.{◌≡◌, ◌∙◌, ◌+◌, ◌%◌, ◌&&◌, ℕ, zero, suc, Bool, true, List, [], ◌∷◌}
use Rattle.std.proofs.Common.{Contains, Some, length, slice_get, refl, sym, ap, inl, inr, arith}
use Rattle.std.proofs.Common.{zero-add}
use Rattle.std.proofs.lemmas.Bool.{and_from, and_parts, false≢true, or_cases, or_left, or_right}
use Rattle.std.proofs.lemmas.Option.{none-some, same_Some}
use Rattle.std.specs.{Bool.Decides, List.list_any, List.range_with_len}
use Rattle.aeth_base.{specs.declared.ids.LinkId.LinkId, proofs.Ranges.Contains-range}
use Rattle.aeth_chip.specs.{Paths.delay_of, Paths.offset, declared.node.Link.Link}
use Rattle.aeth_chip.proofs.OffsetLemmas.{offset-behind}
use Rattle.aeth_slots.specs.SlotSet.{Slots}
use Rattle.aeth_group.specs.{Conflict.Conflict, Members.GroupsData, Members.has_unit}
use Rattle.aeth_group.specs.{Occupation.holds_in, declared.grant.Grant.Grant}
use Rattle.aeth_group.proofs.ConflictLemmas.{conflict-sym, conflict_from_held, held_from_conflict}
use Rattle.aeth_group.proofs.ListLemmas.{any_from_passes, passes_from_any, same_tests}
use Rattle.aeth_group.proofs.OccupationLemmas.{occupies-Decides}
use Rattle.aeth_group.proofs.RowLemmas.{use_is_there}
use Rattle.aeth_check.specs.Meetings.{conflicts, meets}

-- A place of a path where flits enter a link in a slot that passes.
record Meeting (test : ℕ → ℕ → Bool) (starts : Slots) (links : List Link) (after : ℕ)
    (path : List LinkId) : Type 0 where
  place : ℕ
  link : LinkId
  start : ℕ
  on_path : slice_get path place ≡ Some link
  starts_in : Contains starts.slots start
  passes : test link.0 ((start + (after + offset links path place)) % starts.size) ≡ true

meeting_from : (test : ℕ → ℕ → Bool) (starts : Slots) (links : List Link) (after : ℕ)
    (path : List LinkId) → meets test starts links after path ≡ true
    → Meeting test starts links after path
meeting_from test starts links after [] found = absurd (false≢true found)
meeting_from test starts links after (k ∷ path) found =
    elim (or_cases (list_any (λ x. test k.0 ((x + after) % starts.size)) starts.slots) _ found) [
      | inl here ↦
          let start =
          passes_from_any (λ x. test k.0 ((x + after) % starts.size)) starts.slots here in
          let now : after + 0 ≡ after = omega arith in
          record {
            place = 0;
            link = k;
            start = start.item;
            on_path = refl;
            starts_in = start.is_in;
            passes = rw now start.passes;
          }
      | inr onward ↦
          let rest = meeting_from test starts links (after + delay_of links k) path onward in
          record {
            place = suc rest.place;
            link = rest.link;
            start = rest.start;
            on_path = rest.on_path;
            starts_in = rest.starts_in;
            passes = rw (offset-behind links after k path rest.place) rest.passes;
          }
    ]

meets_from : (test : ℕ → ℕ → Bool) (starts : Slots) (links : List Link) (after : ℕ)
    (path : List LinkId) (place start : ℕ) (link : LinkId) → slice_get path place ≡ Some link
    → Contains starts.slots start
    → test link.0 ((start + (after + offset links path place)) % starts.size) ≡ true
    → meets test starts links after path ≡ true
meets_from test starts links after [] place start link on has passes = absurd (none-some link on)
meets_from test starts links after (k ∷ path) zero start link on has passes =
    let now : after + 0 ≡ after = omega arith in
    or_left _ _ (any_from_passes (λ x. test k.0 ((x + after) % starts.size)) starts.slots start has
    (ap (λ (j : LinkId). test j.0 ((start + after) % starts.size)) (same_Some k link on)
    ∙ ap (λ a. test link.0 ((start + a) % starts.size)) (sym now) ∙ passes))
meets_from test starts links after (k ∷ path) (suc place) start link on has passes =
    or_right (list_any (λ x. test k.0 ((x + after) % starts.size)) starts.slots) _
    (meets_from test starts links (after + delay_of links k) path place start link on has
    (ap (λ a. test link.0 ((start + a) % starts.size)) (sym (offset-behind links after k path place))
    ∙ passes))

-- The test decides.
pub conflicts-Decides : (links : List Link) (groups : GroupsData) (a b : Grant)
    → Decides (conflicts links groups a b) (Conflict groups links a b)
conflicts-Decides links groups a b = (
  (λ found.
      let uses = range_with_len 0 (length groups.uses) in
      let some = passes_from_any (λ u. has_unit groups a.unit u
      && meets (λ l s. holds_in groups links u l s b) a.slots links 0 a.path) uses found in
      let u = some.item in
      let (has, met) = and_parts _ _ some.passes in
      let at = meeting_from (λ l s. holds_in groups links u l s b) a.slots links 0 a.path met in
      conflict_from_held groups links a b (record {
        use_case = u;
        link = at.link.0;
        slot = (at.start + (0 + offset links a.path at.place)) % a.slots.size;
        first = and_from _ _ has ((occupies-Decides links a at.link.0 _).1 (record {
          place = at.place;
          link = at.link;
          start = at.start;
          on_path = at.on_path;
          is_link = refl;
          starts = at.starts_in;
          slot = ap (λ n. (at.start + n) % a.slots.size)
              (sym (zero-add (offset links a.path at.place)));
        }));
        second = at.passes;
      })),
  (λ conflict.
      let held = held_from_conflict groups links a b conflict in
      let u = held.use_case in
      let (has, on) = and_parts _ _ held.first in
      let at = (occupies-Decides links a held.link held.slot).0 on in
      let slot : (at.start + (0 + offset links a.path at.place)) % a.slots.size ≡ held.slot =
      ap (λ n. (at.start + n) % a.slots.size) (zero-add (offset links a.path at.place)) ∙ at.slot in
      any_from_passes (λ v. has_unit groups a.unit v
      && meets (λ l s. holds_in groups links v l s b) a.slots links 0 a.path)
      (range_with_len 0 (length groups.uses)) u
      (Contains-range 0 (length groups.uses) u (omega arith)
      (let below = use_is_there groups a.unit u has in omega (arith, below)))
      (and_from _ _ has (meets_from (λ l s. holds_in groups links u l s b) a.slots links 0 a.path
      at.place at.start at.link at.on_path at.starts
      (ap (λ l. holds_in groups links u l ((at.start + (0 + offset links a.path at.place))
      % a.slots.size) b) at.is_link
      ∙ ap (λ s. holds_in groups links u held.link s b) slot ∙ held.second)))),
)

-- The test is mutual.
pub conflicts-sym : (links : List Link) (groups : GroupsData) (a b : Grant)
    → conflicts links groups a b ≡ conflicts links groups b a
conflicts-sym links groups a b =
    let one = conflicts-Decides links groups a b in
    let other = conflicts-Decides links groups b a in
    same_tests _ _ (λ found. other.1 (conflict-sym groups links a b (one.0 found)))
    (λ found. one.1 (conflict-sym groups links b a (other.0 found)))
