-- Which rows there are by some hops, and that they ascend.
use Rattle.std.proofs.Common.{◌≡◌, ◌<◌, ◌∙◌, ℕ, List, [], Option, Some, None, Contains, length, sym}
use Rattle.std.proofs.Common.{ap, subst, inl, inr, arith, slice_index}
use Rattle.std.specs.List.{AllPairs, range_with_len}
use Rattle.aeth_base.specs.declared.ids.{LinkId.LinkId, RouterId.RouterId}
use Rattle.aeth_base.proofs.Members.{Contains-cases, Contains-flat_map, Contains-here, Contains-nil}
use Rattle.aeth_base.proofs.Members.{flat_map-Contains}
use Rattle.aeth_base.proofs.Ranges.{Contains-range, range-Contains}
use Rattle.aeth_chip.specs.{Chip.ChipData, Nodes.sends_on, declared.node.Node.TheVariants.Router}
use Rattle.aeth_rtable.specs.{Hops.entry_at, Rows.rows_by, Rows.rows_of_port, Rows.rows_of_router}
use Rattle.aeth_rtable.specs.{Rows.rows_with, RouterTables.IsBefore, declared.hops.Hop.Hop}
use Rattle.aeth_rtable.proofs.Lists.{Climbs, climbs-flat_map, pairs_rise}
use Rattle.aeth_router.specs.declared.router_row.RouterRow.{RouterRow}

-- The row of an entry is at its place.
record IsAt (router : RouterId) (port slot : ℕ) (entry : Option LinkId) (row : RouterRow)
    : Type 0 where
  router_is : row.router ≡ router
  port_is : row.port ≡ port
  slot_is : row.slot ≡ slot
  entry_is : entry ≡ Some row.from

is_at : (router : RouterId) (port slot : ℕ) (entry : Option LinkId) (row : RouterRow)
    → Contains (rows_with router port slot entry) row → IsAt router port slot entry row
is_at router port slot None row has = Contains-nil has
is_at router port slot (Some from) row has =
    let made : RouterRow = record { router = router; port = port; slot = slot; from = from } in
    elim (Contains-cases made [] row has) [
      | inl same ↦ record {
        router_is = sym (ap (λ (r : RouterRow). r.router) same);
        port_is = sym (ap (λ (r : RouterRow). r.port) same);
        slot_is = sym (ap (λ (r : RouterRow). r.slot) same);
        entry_is = ap (λ (r : RouterRow). Some r.from) same;
      }
      | inr later ↦ Contains-nil later
    ]

module _ (hops : List Hop) (chip : ChipData) where
  -- The link on which a router sends through a port.
  abbrev pub link_of : RouterId → ℕ → ℕ
  link_of router port = slice_index (sends_on (Router router) chip.links) port

  -- What holds of each row.
  pub record IsRow (row : RouterRow) : Type 0 where
    pub router : row.router.0 < length chip.routers
    pub port : row.port < length (sends_on (Router row.router) chip.links)
    pub slot : row.slot < chip.slots
    pub entry : entry_at hops (link_of row.router row.port) row.slot ≡ Some row.from

  -- A row of a port.
  record IsOfPort (router : RouterId) (port link : ℕ) (row : RouterRow) : Type 0 where
    router_is : row.router ≡ router
    port_is : row.port ≡ port
    slot : row.slot < chip.slots
    entry : entry_at hops link row.slot ≡ Some row.from

  of_port : (router : RouterId) (port link : ℕ) (row : RouterRow)
      → Contains (rows_of_port hops chip.slots router port link) row → IsOfPort router port link row
  of_port router port link row has =
      let (s, in_range, there) = flat_map-Contains
      (λ (slot : ℕ). rows_with router port slot (entry_at hops link slot))
      (range_with_len 0 chip.slots) row has in
      let at = is_at router port s (entry_at hops link s) row there in
      let below = range-Contains chip.slots s in_range in
      record {
        router_is = at.router_is;
        port_is = at.port_is;
        slot = let same = at.slot_is in omega (arith, below, same);
        entry = ap (λ (n : ℕ). entry_at hops link n) at.slot_is ∙ at.entry_is;
      }

  -- A row of a router.
  record IsOfRouter (router : RouterId) (row : RouterRow) : Type 0 where
    port : row.port < length (sends_on (Router router) chip.links)
    of : IsOfPort router row.port (link_of router row.port) row

  of_router : (router : RouterId) (row : RouterRow)
      → Contains (rows_of_router hops chip router) row → IsOfRouter router row
  of_router router row has =
      let links = sends_on (Router router) chip.links in
      let (p, in_range, there) = flat_map-Contains
      (λ (port : ℕ). rows_of_port hops chip.slots router port (link_of router port))
      (range_with_len 0 (length links)) row has in
      let of = of_port router p (link_of router p) row there in
      let below = range-Contains (length links) p in_range in
      let own = subst (λ (n : ℕ). IsOfPort router n (link_of router n) row) (sym of.port_is) of in
      record { port = let same = of.port_is in omega (arith, below, same); of = own }

  -- Each row is of a router, a port and a slot that there are, and is their entry.
  pub is_row : (row : RouterRow) → Contains (rows_by hops chip) row → IsRow row
  is_row row has =
      let (r, in_range, there) = flat_map-Contains
      (λ (n : ℕ). rows_of_router hops chip (record { 0 = n }))
      (range_with_len 0 (length chip.routers)) row has in
      let at = of_router (record { 0 = r }) row there in
      let below = range-Contains (length chip.routers) r in_range in
      let number : row.router.0 ≡ r = ap (λ (q : RouterId). q.0) at.of.router_is in
      let own = subst (λ (q : RouterId). IsOfRouter q row) (sym at.of.router_is) at in
      record {
        router = omega (arith, below, number);
        port = own.port;
        slot = own.of.slot;
        entry = own.of.entry;
      }

  -- Each such one is a row.
  pub has_row : (row : RouterRow) → IsRow row → Contains (rows_by hops chip) row
  has_row row is =
      let router = row.router in
      let links = sends_on (Router router) chip.links in
      let entry = entry_at hops (link_of router row.port) row.slot in
      let here : Contains (rows_with router row.port row.slot entry) row =
      subst (λ (o : Option LinkId). Contains (rows_with router row.port row.slot o) row)
      (sym is.entry) (Contains-here row []) in
      let in_port = Contains-flat_map
      (λ (slot : ℕ). rows_with router row.port slot (entry_at hops (link_of router row.port) slot))
      (range_with_len 0 chip.slots) row.slot row
      (Contains-range 0 chip.slots row.slot (omega arith) (let slot = is.slot in omega arith)) here in
      let in_router = Contains-flat_map
      (λ (port : ℕ). rows_of_port hops chip.slots router port (link_of router port))
      (range_with_len 0 (length links)) row.port row
      (Contains-range 0 (length links) row.port (omega arith) (let port = is.port in omega arith))
      in_port in
      Contains-flat_map (λ (n : ℕ). rows_of_router hops chip (record { 0 = n }))
      (range_with_len 0 (length chip.routers)) router.0 row
      (Contains-range 0 (length chip.routers) router.0 (omega arith)
      (let below = is.router in omega arith)) in_router

  -- ---- In order

  one_climbs : (router : RouterId) (port slot : ℕ) (entry : Option LinkId)
      → Climbs IsBefore (rows_with router port slot entry)
  one_climbs router port slot None = tt
  one_climbs router port slot (Some from) = ((λ row has. Contains-nil has), tt)

  port_climbs : (router : RouterId) (port link : ℕ)
      → Climbs IsBefore (rows_of_port hops chip.slots router port link)
  port_climbs router port link =
      let at = λ (slot : ℕ). rows_with router port slot (entry_at hops link slot) in
      climbs-flat_map IsBefore at 0 chip.slots
      (λ slot. one_climbs router port slot (entry_at hops link slot))
      (λ i j a b less in_a in_b.
      let one = is_at router port i (entry_at hops link i) a in_a in
      let two = is_at router port j (entry_at hops link j) b in_b in
      let routers = ap (λ (r : RouterId). r.0) (one.router_is ∙ sym two.router_is) in
      let below : a.slot < b.slot =
      (let i_is = one.slot_is in let j_is = two.slot_is in omega arith) in
      inr (routers, inr (one.port_is ∙ sym two.port_is, below)))

  router_climbs : (router : RouterId) → Climbs IsBefore (rows_of_router hops chip router)
  router_climbs router =
      climbs-flat_map IsBefore
      (λ (port : ℕ). rows_of_port hops chip.slots router port (link_of router port)) 0
      (length (sends_on (Router router) chip.links))
      (λ port. port_climbs router port (link_of router port))
      (λ i j a b less in_a in_b.
      let one = of_port router i (link_of router i) a in_a in
      let two = of_port router j (link_of router j) b in_b in
      let routers = ap (λ (r : RouterId). r.0) (one.router_is ∙ sym two.router_is) in
      let below : a.port < b.port =
      (let i_is = one.port_is in let j_is = two.port_is in omega arith) in
      inr (routers, inl below))

  -- The rows ascend by router, port and slot.
  pub rows_rise : AllPairs IsBefore (rows_by hops chip)
  rows_rise = pairs_rise IsBefore (rows_by hops chip) (climbs-flat_map IsBefore
      (λ (n : ℕ). rows_of_router hops chip (record { 0 = n })) 0 (length chip.routers)
      (λ n. router_climbs (record { 0 = n }))
      (λ i j a b less in_a in_b.
      let one = of_router (record { 0 = i }) a in_a in
      let two = of_router (record { 0 = j }) b in_b in
      let below : a.router.0 < b.router.0 =
      (let i_is : a.router.0 ≡ i = ap (λ (r : RouterId). r.0) one.of.router_is in
      let j_is : b.router.0 ≡ j = ap (λ (r : RouterId). r.0) two.of.router_is in omega arith) in
      inl below))
