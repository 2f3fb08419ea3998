-- How a path goes on from wire to wire: through stages along a link, and through routers from link to
-- link.
use Rattle.std.proofs.Common.{◌≡◌, ◌≤◌, ◌<◌, ◌+◌, ◌-◌, ◌*◌, ◌/◌, ◌%◌, ◌^◌, ◌++◌, ◌∙◌, ℕ, zero, suc}
use Rattle.std.proofs.Common.{List, [], ◌∷◌, All, Some, length, map, drop, get_or, length-drop}
use Rattle.std.proofs.Common.{slice_get, refl, sym, ap, subst, inl, inr, arith, option_map}
use Rattle.std.proofs.Common.{length-append}
use Rattle.std.proofs.lemmas.Bool.{cases_lt}
use Rattle.std.proofs.lemmas.List.{length-map}
use Rattle.std.proofs.lemmas.Option.{same_Some, slice_get-get_or, slice_get-map, slice_get_within}
use Rattle.aeth_base.specs.Limits.{max_path_links}
use Rattle.aeth_base.specs.declared.ids.{LinkId.LinkId, NiId.NiId, RouterId.RouterId}
use Rattle.aeth_base.proofs.Lists.{drop-slice_get, option_map-some, slice_get-push}
use Rattle.aeth_header.specs.{Layout.port_bits, Layout.route_bits, Route.IsPort, Route.route_of}
use Rattle.aeth_header.proofs.RouteLemmas.{route_of-drop, route_of-fits, route_of-mod}
use Rattle.aeth_chip.specs.{Chip.ChipData, Chip.IsChip, Chip.IsNode, Joined.IsJoined}
use Rattle.aeth_chip.specs.{Nodes.begins_at, Nodes.sends_on, Paths.BeginsAt, Paths.IsPath}
use Rattle.aeth_chip.specs.{Paths.delay_of, Paths.offset, Paths.to_of, Wires.HaveDelays}
use Rattle.aeth_chip.specs.{Wires.wire_at, declared.node.Link.Link, declared.node.Node.Node}
use Rattle.aeth_chip.specs.{declared.node.Node.TheVariants.Ni}
use Rattle.aeth_chip.specs.{declared.node.Node.TheVariants.Router}
use Rattle.aeth_chip.proofs.{JoinedLaws.joined-next, NodeLemmas.length-numbers_from}
use Rattle.aeth_chip.proofs.{OffsetLemmas.offset-more, OffsetLemmas.offset-zero}
use Rattle.aeth_chip.proofs.{OffsetLemmas.offset_all, WireLemmas.have_delays}
use Rattle.aeth_router.proofs.WireLemmas.{last_wire-is}
use Rattle.aeth_invariant.specs.RoutedSessions.{AtInterface, AtRouter, AtStage}
use Rattle.aeth_report.specs.Routes.{port_of, route_along}
use Rattle.aeth_tables.proofs.ListLaws.{all_from_places}
use Rattle.aeth_routed_sessions.specs.Paths.{routers_passed_along, wires_along}
use Rattle.aeth_routed_sessions.specs.Wiring.{end_of, node_end, start_of}
use Rattle.aeth_routed_sessions.proofs.Flattened.{drop-one}
use Rattle.aeth_routed_sessions.proofs.PathWires.{IsWireOf, routers_passed-is, length-wires_along}
use Rattle.aeth_routed_sessions.proofs.PathWires.{wires-at, wires-place}
use Rattle.aeth_routed_sessions.proofs.WireEnds.{delay-there, first-starts, further-starts}
use Rattle.aeth_routed_sessions.proofs.WireEnds.{inner-ends, last-ends}
use Rattle.aeth_routed_sessions.proofs.WiredLemmas.{port_at}

module _ (links : List Link) where
  -- Each of joined links begins at some node.
  joined-at : (a : Node) (path : List LinkId) (j : ℕ) (l : LinkId)
      → IsJoined (BeginsAt links) (to_of links) a path → slice_get path j ≡ Some l
      → (node : Node) × BeginsAt links l node
  joined-at a [] j l joined at = absurd (cc at)
  joined-at a (first ∷ path) zero l joined at =
      (a, subst (λ (k : LinkId). BeginsAt links k a) (same_Some first l at) joined.0)
  joined-at a (first ∷ path) (suc j) l joined at =
      joined-at (to_of links first) path j l joined.1 at

  joined-first : (a : Node) (path : List LinkId) (l : LinkId)
      → IsJoined (BeginsAt links) (to_of links) a path → slice_get path 0 ≡ Some l
      → BeginsAt links l a
  joined-first a [] l joined at = absurd (cc at)
  joined-first a (first ∷ path) l joined at =
      subst (λ (k : LinkId). BeginsAt links k a) (same_Some first l at) joined.0

module _ (chip : ChipData) (is_chip : IsChip chip) (a b : NiId) (path : List LinkId)
    (is_path : IsPath chip.links a b path) where
  abbrev links : List Link
  links = chip.links

  delays : HaveDelays chip.links
  delays = have_delays chip is_chip

  -- A link of the path is one of the chip's.
  pub record IsLinkAt (l : LinkId) : Type 0 where
    pub link : Link
    pub at : slice_get chip.links l.0 ≡ Some link
    pub delay : delay_of chip.links l ≡ link.delay
    pub some : 1 ≤ link.delay

  link_at : (l : LinkId) (node : Node) → BeginsAt chip.links l node → IsLinkAt l
  link_at l node begins = record {
    link = begins.link;
    at = begins.is;
    delay = delay-there chip.links l.0 begins.link begins.is;
    some = (delays l.0 begins.link begins.is).0;
  }

  pub there : (j : ℕ) (l : LinkId) → slice_get path j ≡ Some l → IsLinkAt l
  there j l at =
      let found = joined-at chip.links (Ni a) path j l is_path.joins.joined at in
      link_at l found.0 found.1

  length-path : length path ≡ length is_path.routers + 1
  length-path =
      sym (length-map path (to_of chip.links)) ∙ ap length is_path.joins.ends
      ∙ length-append (map (λ r. Router r) is_path.routers) (Ni b ∷ [])
      ∙ ap (λ (n : ℕ). n + 1) (length-map is_path.routers (λ (r : RouterId). Router r))

  -- A link ends at a router, or is the last and ends at the interface.
  pub data Leads (j : ℕ) (l : LinkId) : Type 0 where
    On : (router : RouterId) → to_of chip.links l ≡ Router router → suc j < length path → Leads j l
    Home : to_of chip.links l ≡ Ni b → suc j ≡ length path → Leads j l

  leads : (j : ℕ) (l : LinkId) → slice_get path j ≡ Some l → Leads j l
  leads j l at =
      let routers = map (λ (r : RouterId). Router r) is_path.routers in
      let ends : slice_get (routers ++ Ni b ∷ []) j ≡ Some (to_of chip.links l) =
      sym (ap (λ (nodes : List Node). slice_get nodes j) is_path.joins.ends)
      ∙ slice_get-map (to_of chip.links) path j
      ∙ ap (option_map (to_of chip.links)) at in
      let count = length-path in
      let all = length-map is_path.routers (λ (r : RouterId). Router r) in
      elim (slice_get-push routers (Ni b) (to_of chip.links l) j ends) [
        | inl inside ↦
            let within = slice_get_within routers j (to_of chip.links l) inside in
            let (router, is, same) = option_map-some (λ (r : RouterId). Router r)
            (slice_get is_path.routers j) (to_of chip.links l)
            (sym (slice_get-map (λ (r : RouterId). Router r) is_path.routers j) ∙ inside) in
            On router (sym same) (omega (arith, within, count, all))
        | inr last ↦
            let end = last.0 in
            Home (sym last.1) (omega (arith, end, count, all))
      ]

  -- The port of a link behind the first fits its bits.
  port_within : (j : ℕ) (l m : LinkId) → BeginsAt chip.links m (to_of chip.links l)
      → slice_get path (suc j) ≡ Some m → Leads j l → IsPort (port_of chip.links m)
  port_within j l m begins at (On router is more) =
      let from : begins.link.from ≡ Router router = begins.begins ∙ is in
      let known : router.0 < length chip.routers =
      subst (λ (node : Node). IsNode chip.routers chip.nis node) from
      (is_chip.links m.0 begins.link begins.is).from in
      let few = (is_chip.ports router known).sends in
      let ports = sends_on (Router router) chip.links in
      let stands = port_at chip.links m.0 begins.link router begins.is from in
      let below = slice_get_within ports (port_of chip.links m) m.0 stands in
      let count = length-numbers_from (begins_at (Router router)) 0 chip.links in
      omega (arith, few, below, count)
  port_within j l m begins at (Home is last) =
      let within = slice_get_within path (suc j) m at in absurd (omega (arith, within, last))

  port_fits : (j : ℕ) (m : LinkId) → slice_get path (suc j) ≡ Some m
      → IsPort (port_of chip.links m)
  port_fits j m at =
      let within = slice_get_within path (suc j) m at in
      let before = get_or path j m in
      let here : slice_get path j ≡ Some before = slice_get-get_or path j m (omega (arith, within)) in
      let begins = joined-next chip.links (Ni a) path j before m is_path.joins.joined here at in
      port_within j before m begins at (leads j before here)

  ports_fit : All IsPort (map (port_of chip.links) (drop 1 path))
  ports_fit = all_from_places IsPort (map (port_of chip.links) (drop 1 path)) (λ place port at.
      let (link, there, is) = option_map-some (port_of chip.links) (slice_get (drop 1 path) place) port
      (sym (slice_get-map (port_of chip.links) (drop 1 path) place) ∙ at) in
      subst IsPort is (port_fits place link (sym (drop-one path place) ∙ there)))

  -- A short path's route fits its field.
  pub route_fits : length path ≤ max_path_links
      → route_along chip.links path < 2 ^ route_bits
  route_fits short =
      let ports = map (port_of chip.links) (drop 1 path) in
      let count : length ports ≡ length path - 1 =
      length-map (drop 1 path) (port_of chip.links) ∙ length-drop 1 path in
      route_of-fits ports ports_fit (omega (arith, count, short))

  -- The digit of the route behind a link is the port of the next.
  digit : (j : ℕ) (m : LinkId) → slice_get path (suc j) ≡ Some m
      → route_along chip.links path / 2 ^ (port_bits * j) % 2 ^ port_bits ≡ port_of chip.links m
  digit j m at =
      let ports = map (port_of chip.links) (drop 1 path) in
      let port = port_of chip.links m in
      let there : slice_get ports j ≡ Some port =
      slice_get-map (port_of chip.links) (drop 1 path) j
      ∙ ap (option_map (port_of chip.links)) (drop-one path j ∙ at) in
      ap (λ (n : ℕ). n % 2 ^ port_bits) (route_of-drop j ports ports_fit
      ∙ ap route_of (drop-slice_get ports j port there))
      ∙ route_of-mod port (drop (j + 1) ports) (port_fits j m at)

  -- ---- from wire to wire

  -- Through a router.
  pub record ThroughRouter (i wire next : ℕ) : Type 0 where
    pub router : ℕ
    pub ends : end_of chip.links wire ≡ AtRouter router
    pub starts : start_of chip.links next ≡ AtRouter router
    pub routers_passed : routers_passed_along chip.links path (suc i)
        ≡ routers_passed_along chip.links path i + 1
    pub names : route_along chip.links path / 2
        ^ (port_bits * routers_passed_along chip.links path i)
        % 2 ^ port_bits ≡ port_of chip.links (record { 0 = next })

  -- Through a stage.
  pub record ThroughStage (i wire next : ℕ) : Type 0 where
    pub ends : end_of chip.links wire ≡ AtStage wire
    pub starts : start_of chip.links next ≡ AtStage wire
    pub routers_passed : routers_passed_along chip.links path (suc i)
        ≡ routers_passed_along chip.links path i

  -- To the interface where the path ends.
  pub record Arrives (i wire : ℕ) : Type 0 where
    pub ends : end_of chip.links wire ≡ AtInterface b.0
    pub last : suc i ≡ length (wires_along chip.links path)

  pub data GoesOn (i wire : ℕ) : Type 0 where
    Routed : (next : ℕ) → slice_get (wires_along chip.links path) (suc i) ≡ Some next
        → ThroughRouter i wire next → GoesOn i wire
    Staged : (next : ℕ) → slice_get (wires_along chip.links path) (suc i) ≡ Some next
        → ThroughStage i wire next → GoesOn i wire
    Landed : Arrives i wire → GoesOn i wire

  -- A wire at a place, of this link.
  module _ (i wire : ℕ) (is : IsWireOf chip.links path i wire) (of : IsLinkAt is.link) where
    -- The next one is on the same link.
    staged : suc is.inner < of.link.delay → GoesOn i wire
    staged more =
        let next = wire_at chip.links is.link.0 (suc is.inner) in
        let delay = of.delay in
        let index = is.index in
        let step : offset chip.links path is.place + suc is.inner ≡ suc i = omega (arith, index) in
        let at : slice_get (wires_along chip.links path) (suc i) ≡ Some next =
        ap (slice_get (wires_along chip.links path)) (sym step)
        ∙ wires-at chip.links path is.place (suc is.inner) is.link is.at
        (omega (arith, more, delay)) in
        let ahead = routers_passed-is chip.links path i wire is in
        let again = routers_passed-is chip.links path (suc i) next (record {
          place = is.place;
          link = is.link;
          inner = suc is.inner;
          at = is.at;
          short = omega (arith, more, delay);
          is = refl;
          index = step;
        }) in
        Staged next at (record {
          ends = subst (λ (n : ℕ). end_of chip.links n ≡ AtStage n) is.is
              (inner-ends chip.links delays is.link.0 is.inner of.link of.at more);
          starts = further-starts chip.links delays is.link.0 is.inner of.link of.at more
              ∙ ap (λ (n : ℕ). AtStage n) is.is;
          routers_passed = again ∙ sym ahead;
        })

    -- It is the last of its link.
    module _ (all : suc is.inner ≡ of.link.delay) where
      ends : end_of chip.links wire ≡ node_end of.link.to
      ends =
          let inner : of.link.delay - 1 ≡ is.inner = omega (arith, all) in
          ap (end_of chip.links) (sym is.is
          ∙ ap (wire_at chip.links is.link.0) (sym inner)
          ∙ sym (last_wire-is chip.links is.link.0 of.link of.at))
          ∙ last-ends chip.links delays is.link.0 of.link of.at

      to : of.link.to ≡ to_of chip.links is.link
      to = rw of.at refl

      behind : offset chip.links path (suc is.place) ≡ suc i
      behind =
          let more = offset-more chip.links path is.place is.link is.at in
          let index = is.index in
          let delay = of.delay in
          let next : is.place + 1 ≡ suc is.place = omega arith in
          ap (offset chip.links path) (sym next) ∙ omega (arith, more, index, delay, all)

      -- A router passes it on.
      routed : (router : RouterId) → to_of chip.links is.link ≡ Router router
          → suc is.place < length path → GoesOn i wire
      routed router node more =
          let m = get_or path (suc is.place) is.link in
          let at : slice_get path (suc is.place) ≡ Some m =
          slice_get-get_or path (suc is.place) is.link more in
          let begins = joined-next chip.links (Ni a) path is.place is.link m is_path.joins.joined is.at
          at in
          let next = link_at m (to_of chip.links is.link) begins in
          let delay = next.delay in
          let some = next.some in
          let start = behind in
          let step : offset chip.links path (suc is.place) + 0 ≡ suc i = omega (arith, start) in
          let stands : slice_get (wires_along chip.links path) (suc i) ≡ Some m.0 =
          ap (slice_get (wires_along chip.links path)) (sym step)
          ∙ wires-at chip.links path (suc is.place) 0 m at (omega (arith, some, delay)) in
          let ahead = routers_passed-is chip.links path i wire is in
          let again = routers_passed-is chip.links path (suc i) m.0 (record {
            place = suc is.place;
            link = m;
            inner = 0;
            at = at;
            short = omega (arith, some, delay);
            is = refl;
            index = step;
          }) in
          Routed m.0 stands (record {
            router = router.0;
            ends = ends ∙ ap node_end (to ∙ node);
            starts = first-starts chip.links delays m.0 begins.link begins.is
                ∙ ap node_end (begins.begins ∙ node);
            routers_passed = omega (arith, ahead, again);
            names = ap (λ (h : ℕ). route_along chip.links path / 2 ^ (port_bits * h)
                % 2 ^ port_bits) ahead ∙ digit is.place m at;
          })

      -- Or it has arrived.
      landed : to_of chip.links is.link ≡ Ni b → suc is.place ≡ length path → GoesOn i wire
      landed node last =
          let count = length-wires_along chip.links path in
          let total = offset_all chip.links path in
          let start = behind in
          let same = ap (offset chip.links path) last in
          Landed (record {
            ends = ends ∙ ap node_end (to ∙ node);
            last = omega (arith, count, total, start, same);
          })

      goes-in : Leads is.place is.link → GoesOn i wire
      goes-in (On router node more) = routed router node more
      goes-in (Home node last) = landed node last

    goes : GoesOn i wire
    goes =
        let short = is.short in
        let delay = of.delay in
        elim (cases_lt (suc is.inner) of.link.delay) [
          | inl more ↦ staged more
          | inr all ↦ goes-in (omega (arith, all, short, delay)) (leads is.place is.link is.at)
        ]

  -- So each wire of the path goes on.
  pub goes_on : (i wire : ℕ) → slice_get (wires_along chip.links path) i ≡ Some wire
      → GoesOn i wire
  goes_on i wire at =
      let is = wires-place chip.links path i wire at in
      goes i wire is (there is.place is.link is.at)

  -- The first starts at the interface where the path begins.
  pub record Begins : Type 0 where
    pub first : ℕ
    pub at : slice_get (wires_along chip.links path) 0 ≡ Some first
    pub starts : start_of chip.links first ≡ AtInterface a.0
    pub none_passed : routers_passed_along chip.links path 0 ≡ 0

  pub begins : Begins
  begins =
      let count = length-path in
      let l : LinkId = get_or path 0 (record { 0 = 0 }) in
      let at : slice_get path 0 ≡ Some l =
      slice_get-get_or path 0 (record { 0 = 0 }) (omega (arith, count)) in
      let from = joined-first chip.links (Ni a) path l is_path.joins.joined at in
      let of = link_at l (Ni a) from in
      let delay = of.delay in
      let some = of.some in
      let zero_offset = offset-zero chip.links path in
      let start : offset chip.links path 0 + 0 ≡ 0 = omega (arith, zero_offset) in
      record {
        first = l.0;
        at = ap (slice_get (wires_along chip.links path)) (sym start)
            ∙ wires-at chip.links path 0 0 l at (omega (arith, some, delay));
        starts = first-starts chip.links delays l.0 from.link from.is ∙ ap node_end from.begins;
        none_passed = routers_passed-is chip.links path 0 l.0 (record {
          place = 0;
          link = l;
          inner = 0;
          at = at;
          short = omega (arith, some, delay);
          is = refl;
          index = start;
        });
      }
