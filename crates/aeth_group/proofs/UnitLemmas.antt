-- Laws of the list of units: which are in it, and what one more connection adds.
use Rattle.std.proofs.Common.{◌≡◌, ◌∙◌, ◌<◌, ◌≤◌, ◌+◌, ◌*◌, ℕ, suc, true, [], length, Contains, sym}
use Rattle.std.proofs.Common.{ap, subst, add-one, arith, length-append, count_by, filter, flat_map}
use Rattle.std.proofs.lemmas.List.{flat_map_more, length-map, Sums.length-filter}
use Rattle.std.specs.List.{range_with_len}
use Rattle.aeth_base.specs.declared.ids.Unit.{Unit as GroupUnit}
use Rattle.aeth_base.proofs.Members.{Contains-filter, Contains-flat_map, Contains-map}
use Rattle.aeth_base.proofs.Members.{filter-Contains, flat_map-Contains, map-Contains}
use Rattle.aeth_base.proofs.Ranges.{Contains-range, range-Contains, range_with_len-more}
use Rattle.aeth_app.specs.Limits.{max_uses}
use Rattle.aeth_group.specs.Members.{GroupsData, is_member, units_of, units_with}

-- ---- which units there are

-- A connection of the application with a group in which some use case has it.
pub record IsUnit (groups : GroupsData) (unit : GroupUnit) : Type 0 where
  pub connection : unit.conn.0 < groups.connections
  pub group : unit.group.0 < groups.count
  pub member : is_member groups unit.group.0 unit.conn.0 ≡ true

-- Each unit of the list is one.
pub unit_from_units : (groups : GroupsData) (unit : GroupUnit) → Contains (units_of groups) unit
    → IsUnit groups unit
unit_from_units groups unit has =
    let (c, connections, inside) =
    flat_map-Contains (units_with groups) (range_with_len 0 groups.connections) unit has in
    let (g, same, kept) = map-Contains
    (λ g. record { conn = record { 0 = c }; group = record { 0 = g } })
    (filter (λ g. is_member groups g c) (range_with_len 0 groups.count)) unit inside in
    let (listed, member) = filter-Contains (λ g. is_member groups g c)
    (range_with_len 0 groups.count) g kept in
    subst (IsUnit groups) same (record {
      connection = range-Contains groups.connections c connections;
      group = range-Contains groups.count g listed;
      member = member;
    })

-- Each unit is in the list.
pub units_from_unit : (groups : GroupsData) (unit : GroupUnit) → IsUnit groups unit
    → Contains (units_of groups) unit
units_from_unit groups unit is =
    let c = unit.conn.0 in
    let g = unit.group.0 in
    Contains-flat_map (units_with groups) (range_with_len 0 groups.connections) c unit
    (Contains-range 0 groups.connections c (omega arith) (omega (arith, is.connection)))
    (Contains-map (λ g. record { conn = record { 0 = c }; group = record { 0 = g } })
    (filter (λ g. is_member groups g c) (range_with_len 0 groups.count)) g
    (Contains-filter (λ g. is_member groups g c) (range_with_len 0 groups.count) g
    (Contains-range 0 groups.count g (omega arith) (omega (arith, is.group))) is.member))

-- ---- how many units there are

-- A connection has as many units as groups have it.
length-units_with : (groups : GroupsData) (c : ℕ)
    → length (units_with groups c)
    ≡ count_by (λ g. is_member groups g c) (range_with_len 0 groups.count)
length-units_with groups c =
    length-map (filter (λ g. is_member groups g c) (range_with_len 0 groups.count)) _
    ∙ length-filter (λ g. is_member groups g c) (range_with_len 0 groups.count)

-- The units of the first so many connections, in number.
pub record UnitsBefore (groups : GroupsData) (c units : ℕ) : Type 0 where
  pub is : units ≡ length (flat_map (units_with groups) (range_with_len 0 c))
  pub few : units ≤ max_uses * c

-- One more connection.
pub units-more : (groups : GroupsData) (c units more : ℕ) → UnitsBefore groups c units
    → more ≡ count_by (λ g. is_member groups g c) (range_with_len 0 groups.count)
    → more ≤ groups.count → groups.count ≤ max_uses → UnitsBefore groups (c + 1) (units + more)
units-more groups c units more before is within most =
    let all = flat_map (units_with groups) (range_with_len 0 c) in
    let longer : length (flat_map (units_with groups) (range_with_len 0 (suc c)))
    ≡ length all + length (units_with groups c) =
    ap (λ ns. length (flat_map (units_with groups) ns)) (range_with_len-more 0 c c (omega arith))
    ∙ ap length (sym (flat_map_more (units_with groups) [] (range_with_len 0 c) c))
    ∙ length-append all (units_with groups c) in
    let one = length-units_with groups c in
    let old = before.is in
    let few = before.few in
    record { is = rw add-one (omega arith); few = omega arith }
