-- Rows of one interface share no slot: their grants would conflict on the link that leaves it.
use Rattle.std.proofs.Common.{◌≡◌, ◌<◌, ◌+◌, ◌%◌, ◌∙◌, ◌&&◌, ℕ, zero, suc, true, eqb, List, [], ◌∷◌}
use Rattle.std.proofs.Common.{Some, Contains, slice_get, length, refl, sym, ap, arith, subst, take}
use Rattle.std.proofs.Common.{add-zero, zero-add, count_by, eq-eqb}
use Rattle.std.proofs.lemmas.{Bool.and_from, Option.none-some, Option.same_Some}
use Rattle.aeth_base.specs.declared.ids.{LinkId.LinkId, NiId.NiId, Unit.Unit as GroupUnit}
use Rattle.aeth_chip.specs.{Chip.ChipData, Nodes.begins_at, Nodes.same_node, Nodes.sends_on}
use Rattle.aeth_chip.specs.{Paths.BeginsAt, Paths.IsAdmissible, declared.node.Link.Link}
use Rattle.aeth_chip.specs.{declared.node.Node.Node, declared.node.Node.TheVariants.Ni}
use Rattle.aeth_chip.proofs.NodeLemmas.{numbers_from-at, same_node-refl}
use Rattle.aeth_chip.proofs.OffsetLemmas.{offset-zero}
use Rattle.aeth_app.specs.App.{AppData}
use Rattle.aeth_group.specs.Conflict.{Conflict, IsHeldTwice}
use Rattle.aeth_group.specs.Members.{GroupsData, group_at, groups_of, has_at}
use Rattle.aeth_group.specs.Occupation.{Occupies, holds_in, occupies}
use Rattle.aeth_group.specs.declared.grant.Grant.{Grant}
use Rattle.aeth_group.proofs.ConflictLemmas.{conflict-sym, conflict_from_held}
use Rattle.aeth_group.proofs.OccupationLemmas.{occupies-Decides}
use Rattle.aeth_plan.specs.{Plan.PlanData, Design.IsDesign}
use Rattle.aeth_tables.specs.Granted.{unit_in}
use Rattle.aeth_tables.proofs.{ApartLaws.one_item, SentLinks.begins_there, SentLinks.path_links}

one_only : (x place y : ℕ) → slice_get (x ∷ []) place ≡ Some y → y ≡ x
one_only x zero y at = sym (same_Some x y at)
one_only x (suc place) y at = absurd (none-some y at)

-- An interface sends on one link alone.
leaves_on : (links : List Link) (ni : NiId) (link : LinkId) (leaving : ℕ)
    → sends_on (Ni ni) links ≡ leaving ∷ [] → BeginsAt links link (Ni ni) → link.0 ≡ leaving
leaves_on links ni link leaving sends begins =
    let test = begins_at (Ni ni) in
    let passes : test begins.link ≡ true =
    ap (λ (n : Node). same_node n (Ni ni)) begins.begins ∙ same_node-refl (Ni ni) in
    let at = numbers_from-at test 0 links link.0 begins.link begins.is passes in
    one_only leaving (count_by test (take link.0 links)) link.0
    (ap (λ xs. slice_get xs (count_by test (take link.0 links))) (sym sends) ∙ at
    ∙ ap (λ (n : ℕ). Some n) (zero-add link.0))

-- A grant's path from an interface enters the link that leaves it, in each of its slots.
record Leaves (links : List Link) (ni : NiId) (grant : Grant) : Type 0 where
  first : LinkId
  at : slice_get grant.path 0 ≡ Some first
  begins : BeginsAt links first (Ni ni)

leaves : (links : List Link) (detour : ℕ) (a b : NiId) (grant : Grant) (path : List LinkId)
    → grant.path ≡ path → IsAdmissible links detour a b path → Leaves links a grant
leaves links detour a b grant [] is admissible =
    absurd (omega (arith, (path_links links detour a b [] admissible).0))
leaves links detour a b grant (first ∷ path) is admissible = record {
  first = first;
  at = ap (λ xs. slice_get xs 0) is;
  begins = begins_there links detour a b first path admissible;
}

occupied : (links : List Link) (ni : NiId) (grant : Grant) (slot leaving : ℕ)
    → sends_on (Ni ni) links ≡ leaving ∷ [] → Leaves links ni grant
    → Contains grant.slots.slots slot → Occupies links grant leaving (slot % grant.slots.size)
occupied links ni grant slot leaving sends leaves has = record {
  place = 0;
  link = leaves.first;
  start = slot;
  on_path = leaves.at;
  is_link = leaves_on links ni leaves.first leaving sends leaves.begins;
  starts = has;
  slot = ap (λ (n : ℕ). n % grant.slots.size)
      (ap (λ (n : ℕ). slot + n) (offset-zero links grant.path) ∙ add-zero slot);
}

-- A grant of a use case's group, whose connection the use case has, is held there where it occupies.
held : (groups : GroupsData) (links : List Link) (u conn link slot : ℕ) (grant : Grant)
    → grant.unit ≡ unit_in (group_at groups u) conn → has_at groups u conn ≡ true
    → Occupies links grant link slot → holds_in groups links u link slot grant ≡ true
held groups links u conn link slot grant unit_is has occupied =
    let has_unit : has_at groups u grant.unit.conn.0 ≡ true =
    ap (λ (unit : GroupUnit). has_at groups u unit.conn.0) unit_is ∙ has in
    let of_group : eqb (group_at groups u) grant.unit.group.0 ≡ true =
    eq-eqb (group_at groups u) grant.unit.group.0
    (sym (ap (λ (unit : GroupUnit). unit.group.0) unit_is)) in
    and_from (has_at groups u grant.unit.conn.0 && eqb (group_at groups u) grant.unit.group.0)
    (occupies links grant link slot) (and_from _ _ has_unit of_group) ((occupies-Decides links grant link slot).1 occupied)

module _ (chip : ChipData) (app : AppData) (plan : PlanData) (design : IsDesign chip app plan)
    (u : ℕ) where
  -- Grants of a use case whose paths begin at one interface, and which have a slot in common, are one.
  pub grants_apart : (ni to to' : NiId) (a b : Grant) (c d slot : ℕ) → ni.0 < length chip.nis
      → Contains plan.grants a → Contains plan.grants b
      → a.unit ≡ unit_in (group_at (groups_of app) u) c
      → b.unit ≡ unit_in (group_at (groups_of app) u) d
      → has_at (groups_of app) u c ≡ true → has_at (groups_of app) u d ≡ true
      → a.slots.size ≡ b.slots.size
      → IsAdmissible chip.links app.detour ni to a.path
      → IsAdmissible chip.links app.detour ni to' b.path
      → Contains a.slots.slots slot → Contains b.slots.slots slot → a ≡ b
  grants_apart ni to to' a b c d slot within planned_a planned_b unit_a unit_b has_c has_d size
      path_a path_b slot_a slot_b =
      let groups = groups_of app in
      let single = design.chip_is.single ni within in
      let first = occupied chip.links ni a slot single.leaving.0 single.sends
      (leaves chip.links app.detour ni to a a.path refl path_a) slot_a in
      let second = occupied chip.links ni b slot single.leaving.0 single.sends
      (leaves chip.links app.detour ni to' b b.path refl path_b) slot_b in
      let second_here : Occupies chip.links b single.leaving.0 (slot % a.slots.size) =
      subst (λ (n : ℕ). Occupies chip.links b single.leaving.0 (slot % n)) (sym size) second in
      let twice : IsHeldTwice groups chip.links a b = record {
        use_case = u;
        link = single.leaving.0;
        slot = slot % a.slots.size;
        first = held groups chip.links u c single.leaving.0 (slot % a.slots.size) a unit_a has_c first;
        second = held groups chip.links u d single.leaving.0 (slot % a.slots.size) b unit_b has_d
            second_here;
      } in
      one_item (Conflict groups chip.links) plan.grants (conflict-sym groups chip.links)
      design.accepted.clear a b planned_a planned_b (conflict_from_held groups chip.links a b twice)
