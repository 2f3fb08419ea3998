-- Hops of grants: at which place of a path they are, and that those of one use case onto one link in
-- one slot come from one link.
use Rattle.std.proofs.Common.{◌≡◌, ◌+◌, ◌-◌, ◌%◌, ◌∙◌, ℕ, true, eqb, List, Option, Some, None}
use Rattle.std.proofs.Common.{Contains, length, refl, slice_get, sym, ap, subst, arith, find}
use Rattle.std.proofs.Common.{option_map, eq-eqb, eqb-true}
use Rattle.std.proofs.lemmas.Bool.{and_from, and_parts}
use Rattle.std.proofs.lemmas.Option.{get_or_from_slice_get, none-some, same_Some, slice_get-get_or}
use Rattle.std.proofs.lemmas.Option.{slice_get_within}
use Rattle.std.specs.List.{range_with_len}
use Rattle.aeth_base.specs.declared.ids.LinkId.{LinkId}
use Rattle.aeth_base.proofs.{Members.Contains-flat_map, Members.Contains-map}
use Rattle.aeth_base.proofs.{Members.flat_map-Contains, Members.map-Contains, Ranges.Contains-range}
use Rattle.aeth_slots.{specs.SlotSet.rotated, proofs.SlotSetLemmas.Contains-rotated}
use Rattle.aeth_chip.specs.{Chip.ChipData, Paths.offset, declared.node.Link.Link}
use Rattle.aeth_app.specs.App.{AppData}
use Rattle.aeth_group.specs.{Conflict.Conflict, Members.GroupsData, Members.has_unit}
use Rattle.aeth_group.specs.{Occupation.holds_in, Occupation.occupies, declared.grant.Grant.Grant}
use Rattle.aeth_group.proofs.ConflictLemmas.{conflict-sym, conflict_from_held}
use Rattle.aeth_group.proofs.OccupationLemmas.{occupies-Decides}
use Rattle.aeth_plan.specs.{Plan.PlanData, Accepted.IsAccepted}
use Rattle.aeth_tables.proofs.{ApartLaws.one_item, FindLaws.found_is, FindLaws.found_some}
use Rattle.aeth_accepted.proofs.PathPlaces.{links-once}
use Rattle.aeth_rtable.specs.Hops.{entry_at, hop_between, hops_at, hops_of, leads_onto, link_at}
use Rattle.aeth_rtable.specs.declared.hops.Hop.{Hop}
use Rattle.aeth_rtable.proofs.Lists.{range_bounds}

-- The link at a place of a path is the one there.
pub link_at-is : (path : List LinkId) (place : ℕ) (link : LinkId)
    → slice_get path place ≡ Some link → link_at path place ≡ link
link_at-is path place link at = get_or_from_slice_get path place link (record { 0 = 0 }) at

-- A hop of a grant: where it stands on the path, and a start whose flits make it.
pub record IsHop (links : List Link) (grant : Grant) (hop : Hop) : Type 0 where
  pub place : ℕ
  pub start : ℕ
  pub before : slice_get grant.path place ≡ Some hop.from
  pub behind : slice_get grant.path (place + 1) ≡ Some hop.to
  pub starts : Contains grant.slots.slots start
  pub slot : (start + offset links grant.path (place + 1)) % grant.slots.size ≡ hop.slot

module _ (links : List Link) (grant : Grant) where
  -- Each hop of a grant is such a one.
  pub is_hop : (hop : Hop) → Contains (hops_of links grant) hop → IsHop links grant hop
  is_hop hop has =
      let path = grant.path in
      let first : LinkId = record { 0 = 0 } in
      let (onto, in_range, there) = flat_map-Contains (hops_at links grant)
      (range_with_len 1 (length path - 1)) hop has in
      let bounds = range_bounds 1 (length path - 1) onto in_range in
      let (slot, same, entered) = map-Contains
      (hop_between (link_at path (onto - 1)) (link_at path onto))
      (rotated (offset links path onto) grant.slots).slots hop there in
      let (start, starts, at) = (Contains-rotated (offset links path onto) grant.slots slot).0 entered in
      let next : onto - 1 + 1 ≡ onto = omega arith in
      record {
        place = onto - 1;
        start = start;
        before = slice_get-get_or path (onto - 1) first (omega arith)
            ∙ ap (λ (h : Hop). Some h.from) same;
        behind = ap (slice_get path) next ∙ slice_get-get_or path onto first (omega arith)
            ∙ ap (λ (h : Hop). Some h.to) same;
        starts = starts;
        slot = ap (λ (i : ℕ). (start + offset links path i) % grant.slots.size) next ∙ sym at
            ∙ ap (λ (h : Hop). h.slot) same;
      }

  -- And each such one is a hop of the grant.
  pub has_hop : (hop : Hop) → IsHop links grant hop → Contains (hops_of links grant) hop
  has_hop hop is =
      let path = grant.path in
      let onto = is.place + 1 in
      let within = slice_get_within path onto hop.to is.behind in
      let back : onto - 1 ≡ is.place = omega arith in
      let from : link_at path (onto - 1) ≡ hop.from =
      ap (link_at path) back ∙ link_at-is path is.place hop.from is.before in
      let to : link_at path onto ≡ hop.to = link_at-is path onto hop.to is.behind in
      let made : Hop = record {
        from = link_at path (onto - 1);
        to = link_at path onto;
        slot = hop.slot;
      } in
      let same : made ≡ hop = λ k. record { from = from k; to = to k; slot = hop.slot } in
      let entered = (Contains-rotated (offset links path onto) grant.slots hop.slot).1
      (is.start, is.starts, sym is.slot) in
      let there : Contains (hops_at links grant onto) made = Contains-map
      (hop_between (link_at path (onto - 1)) (link_at path onto))
      (rotated (offset links path onto) grant.slots).slots hop.slot entered in
      Contains-flat_map (hops_at links grant) (range_with_len 1 (length path - 1)) onto hop
      (Contains-range 1 (length path - 1) onto (omega arith) (omega arith))
      (subst (λ (h : Hop). Contains (hops_at links grant onto) h) same there)

-- ---- Entries

-- The hop of which an entry is.
pub record IsFrom (hops : List Hop) (link slot : ℕ) (from : LinkId) : Type 0 where
  pub hop : Hop
  pub has : Contains hops hop
  pub from_is : hop.from ≡ from
  pub to_is : hop.to.0 ≡ link
  pub slot_is : hop.slot ≡ slot

pub entry-from : (hops : List Hop) (link slot : ℕ) (from : LinkId)
    → entry_at hops link slot ≡ Some from → IsFrom hops link slot from
entry-from hops link slot from is =
    let cases : (found : Option Hop) → find (leads_onto link slot) hops ≡ found
    → option_map (λ (hop : Hop). hop.from) found ≡ Some from → IsFrom hops link slot from = elim [
      | None ↦ λ at none. absurd (none-some from none)
      | Some hop ↦ λ at some.
          let found = found_is (leads_onto link slot) hops hop at in
          let parts = and_parts (eqb hop.to.0 link) (eqb hop.slot slot) found.1 in
          record {
            hop = hop;
            has = found.0;
            from_is = same_Some hop.from from some;
            to_is = eqb-true hop.to.0 link parts.0;
            slot_is = eqb-true hop.slot slot parts.1;
          }
    ]
    in cases (find (leads_onto link slot) hops) refl is

-- Where there is a hop there is an entry.
pub some_entry : (hops : List Hop) (hop : Hop) → Contains hops hop
    → (from : LinkId) × (entry_at hops hop.to.0 hop.slot ≡ Some from)
some_entry hops hop has =
    let leads = and_from (eqb hop.to.0 hop.to.0) (eqb hop.slot hop.slot)
    (eq-eqb hop.to.0 hop.to.0 refl) (eq-eqb hop.slot hop.slot refl) in
    let (first, found) = found_some (leads_onto hop.to.0 hop.slot) hops hop has leads in
    (first.from, ap (option_map (λ (h : Hop). h.from)) found)

-- ---- By an accepted plan

module _ (chip : ChipData) (app : AppData) (groups : GroupsData) (plan : PlanData)
    (accepted : IsAccepted chip app groups plan) (u : ℕ) where
  -- A hop of a grant of the use case.
  pub record IsUsed (grant : Grant) (hop : Hop) : Type 0 where
    pub granted : Contains plan.grants grant
    pub in_use : has_unit groups grant.unit u ≡ true
    pub hop_is : IsHop chip.links grant hop

  -- Its link is held in its slot.
  held : (grant : Grant) (hop : Hop) → IsUsed grant hop
      → holds_in groups chip.links u hop.to.0 hop.slot grant ≡ true
  held grant hop used =
      and_from (has_unit groups grant.unit u) (occupies chip.links grant hop.to.0 hop.slot)
      used.in_use ((occupies-Decides chip.links grant hop.to.0 hop.slot).1 (record {
        place = used.hop_is.place + 1;
        link = hop.to;
        start = used.hop_is.start;
        on_path = used.hop_is.behind;
        is_link = refl;
        starts = used.hop_is.starts;
        slot = used.hop_is.slot;
      }))

  -- Hops onto one link in one slot come from one link.
  pub one_from : (a b : Grant) (one two : Hop) → IsUsed a one → IsUsed b two
      → one.to.0 ≡ two.to.0 → one.slot ≡ two.slot → one.from ≡ two.from
  one_from a b one two first second link slot =
      let links = chip.links in
      let there : holds_in groups links u one.to.0 one.slot b ≡ true =
      subst (λ (l : ℕ). holds_in groups links u l one.slot b ≡ true) (sym link)
      (subst (λ (s : ℕ). holds_in groups links u two.to.0 s b ≡ true) (sym slot)
      (held b two second)) in
      let conflict = conflict_from_held groups links a b (record {
        use_case = u;
        link = one.to.0;
        slot = one.slot;
        first = held a one first;
        second = there;
      }) in
      let same : a ≡ b = one_item (Conflict groups links) plan.grants (conflict-sym groups links)
      accepted.clear a b first.granted second.granted conflict in
      let path = accepted.paths a first.granted in
      let to : two.to ≡ one.to = λ k. record { 0 = sym link k } in
      let j = second.hop_is.place in
      let behind : slice_get a.path (j + 1) ≡ Some one.to =
      ap (λ (x : Grant). slice_get x.path (j + 1)) same ∙ second.hop_is.behind
      ∙ ap (λ (l : LinkId). Some l) to in
      let places = links-once links app.detour path.from path.to a.path (first.hop_is.place + 1)
      (j + 1) one.to path.admissible first.hop_is.behind behind in
      let place : first.hop_is.place ≡ j = omega arith in
      same_Some one.from two.from (sym first.hop_is.before ∙ ap (slice_get a.path) place
      ∙ ap (λ (x : Grant). slice_get x.path j) same ∙ second.hop_is.before)
