-- What the channels of all groups need is what those of all use cases need.
use Rattle.std.proofs.Common.{◌≡◌, ◌∙◌, ◌<◌, ◌&&◌, ◌==◌, ℕ, true, Option, Some, None, Contains, ap}
use Rattle.std.proofs.Common.{arith, filter, inl, inr, length, refl, eqb-true}
use Rattle.std.proofs.lemmas.{Bool.and_parts, Bool.cases_Bool, Option.slice_get_within}
use Rattle.std.specs.List.{range_with_len}
use Rattle.aeth_base.proofs.Members.{Contains-filter, Contains-filter_map, Contains-flat_map}
use Rattle.aeth_base.proofs.Members.{Contains-nil, filter-Contains, flat_map-Contains}
use Rattle.aeth_base.proofs.Members.{filter_map-Contains, slice_get-Contains}
use Rattle.aeth_base.proofs.Ranges.{Contains-range, range-Contains}
use Rattle.aeth_chip.specs.Chip.{ChipData}
use Rattle.aeth_app.specs.App.{AppData, is_marked}
use Rattle.aeth_group.specs.Members.{UseGroupData, group_at, group_in, groups_of, has_at, is_member}
use Rattle.aeth_group.specs.Members.{use_has}
use Rattle.aeth_group.proofs.{ListLemmas.passes_from_any, MemberLemmas.connections-groups_of}
use Rattle.aeth_group.proofs.{MemberLemmas.is_groups-groups_of, MemberLemmas.length-groups_of}
use Rattle.aeth_plan.specs.{Plan.PlanData, Design.IsDesign}
use Rattle.aeth_tables.specs.Buffers.{buffers_at, buffers_for, buffers_in, buffers_of, buffers_on}
use Rattle.aeth_tables.specs.Granted.{granted_in, granted_of}
use Rattle.aeth_tables.specs.declared.buffering.Buffer.{Buffer}
use Rattle.aeth_tables.specs.declared.granted.GrantedConnection.{GrantedConnection}
use Rattle.aeth_tables.proofs.UseLaws.{group_below, member_of_use}

module _ (chip : ChipData) (app : AppData) (plan : PlanData) (design : IsDesign chip app plan) where
  -- What a connection of a use case needs is among what all need.
  pub granted-buffer : (u : ℕ) → u < length app.uses → (granted : GrantedConnection)
      → Contains (granted_in app (groups_of app) plan u) granted → (one : Buffer)
      → Contains (buffers_on chip app granted) one
      → Contains (buffers_of chip app (groups_of app) plan) one
  unfolding granted_in buffers_of
  granted-buffer u within granted has one here =
      let groups = groups_of app in
      let group = group_at groups u in
      let all = range_with_len 0 groups.connections in
      let (conn, inside, gives) = filter_map-Contains (granted_of app plan group)
      (filter (has_at groups u) all) granted has in
      let (known, had) = filter-Contains (has_at groups u) all conn inside in
      let is_groups = is_groups-groups_of app design.app_is.connections design.app_is.uses in
      let below = group_below groups is_groups u (omega (arith, length-groups_of app)) in
      let member = member_of_use groups u conn had in
      let number = range-Contains groups.connections conn known in
      let at : Contains (buffers_for chip app groups plan conn group) one = rw (member, gives) here in
      Contains-flat_map (buffers_in chip app groups plan) (range_with_len 0 (length app.connections))
      conn one (Contains-range 0 (length app.connections) conn (omega arith)
      (omega (arith, connections-groups_of app, number)))
      (Contains-flat_map (buffers_for chip app groups plan conn) (range_with_len 0 groups.count)
      group one (Contains-range 0 groups.count group (omega arith) (omega (arith, below))) at)

  -- A connection that a group has is one of a use case of the group.
  use_of : (group conn : ℕ) → is_member (groups_of app) group conn ≡ true
      → (u : ℕ) × (u < length app.uses) × (has_at (groups_of app) u conn ≡ true)
      × (group_at (groups_of app) u ≡ group)
  use_of group conn member =
      let groups = groups_of app in
      let found = passes_from_any (λ (one : UseGroupData). one.group == group && is_marked one.has conn)
      groups.uses member in
      let (u, at) = slice_get-Contains groups.uses found.item found.is_in in
      let (own, had) = and_parts (found.item.group == group) (is_marked found.item.has conn)
      found.passes in (
        u,
        omega (arith, length-groups_of app, slice_get_within groups.uses u found.item at),
        ap (λ (o : Option UseGroupData). use_has o conn) at ∙ had,
        ap (λ (o : Option UseGroupData). group_in o) at ∙ eqb-true found.item.group group own,
      )

  -- What is needed is needed by a connection of a use case.
  pub buffer-granted : (one : Buffer) → Contains (buffers_of chip app (groups_of app) plan) one
      → (u : ℕ) × (u < length app.uses) × (granted : GrantedConnection)
      × Contains (granted_in app (groups_of app) plan u) granted
      × Contains (buffers_on chip app granted) one
  unfolding granted_in buffers_of
  buffer-granted one has =
      let groups = groups_of app in
      let all = range_with_len 0 groups.connections in
      let (conn, known, inner) = flat_map-Contains (buffers_in chip app groups plan)
      (range_with_len 0 (length app.connections)) one has in
      let number = range-Contains (length app.connections) conn known in
      let (group, of_group, here) = flat_map-Contains (buffers_for chip app groups plan conn)
      (range_with_len 0 groups.count) one inner in
      elim (cases_Bool (is_member groups group conn)) [
        | inl member ↦
            let (u, within, had, is_group) = use_of group conn member in
            let given : Contains (buffers_at chip app (granted_of app plan group conn)) one =
            rw member at here in
            let cases : (o : Option GrantedConnection) → granted_of app plan group conn ≡ o
            → Contains (buffers_at chip app o) one → (u : ℕ) × (u < length app.uses)
            × (granted : GrantedConnection) × Contains (granted_in app (groups_of app) plan u) granted
            × Contains (buffers_on chip app granted) one =
            elim [
              | None ↦ λ is none. Contains-nil none
              | Some granted ↦ λ is inside.
                  let gives : granted_of app plan (group_at groups u) conn ≡ Some granted =
                  ap (λ (g : ℕ). granted_of app plan g conn) is_group ∙ is in (
                    u,
                    within,
                    granted,
                    Contains-filter_map (granted_of app plan (group_at groups u))
                        (filter (has_at groups u) all) conn granted
                        (Contains-filter (has_at groups u) all conn
                        (Contains-range 0 groups.connections conn (omega arith)
                        (omega (arith, connections-groups_of app, number))) had) gives,
                    inside,
                  )
            ]
            in cases (granted_of app plan group conn) refl given
        | inr other ↦ Contains-nil (rw other at here)
      ]
