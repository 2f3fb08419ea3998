-- The ports of links, and routes along paths.
use Rattle.std.proofs.Common.{◌≡◌, ◌∙◌, ◌<◌, ◌≤◌, ◌+◌, ◌*◌, ◌/◌, ◌%◌, ◌^◌, ℕ, zero, suc, List, []}
use Rattle.std.proofs.Common.{◌∷◌, All, Option, Some, None, slice_get, length, map, drop, refl, sym}
use Rattle.std.proofs.Common.{ap, subst, arith, IfSome, IsSome, option_map, ◌-◌, min, get_or}
use Rattle.std.proofs.Common.{get_or-drop, length-drop, rules}
use Rattle.std.proofs.lemmas.{Bool.false≢true, List.length-map, Option.get_or_from_slice_get}
use Rattle.std.proofs.lemmas.{Option.slice_get-map, Option.slice_get_within}
use Rattle.std.proofs.Math.Pow.{pow_mono}
use Rattle.aeth_base.proofs.Lists.{drop-slice_get, map-slice_get}
use Rattle.aeth_base.specs.Limits.{max_path_links}
use Rattle.aeth_base.specs.declared.ids.{LinkId.LinkId, RouterId.RouterId}
use Rattle.aeth_header.specs.{Layout.port_bits, Layout.route_bits, Route.IsPort, Route.route_of}
use Rattle.aeth_header.proofs.RouteLemmas.{route_of-below, route_of-drop, route_of-fits}
use Rattle.aeth_header.proofs.RouteLemmas.{route_of-mod}
use Rattle.aeth_chip.specs.{Chip.ChipData, Chip.IsChip, Limits.max_ports, Nodes.begins_at}
use Rattle.aeth_chip.specs.{Nodes.sender_of, Nodes.sends_on, declared.node.Node.TheVariants.Router}
use Rattle.aeth_chip.proofs.NodeLemmas.{numbers_from-once, port_at}
use Rattle.aeth_tables.specs.Routes.{IsSent, port_from, port_of, ports_along}
use Rattle.aeth_tables.proofs.ListLaws.{all_from_places}

-- What holds of the port of a link on which a router sends.
pub record IsAtPort (chip : ChipData) (link : LinkId) (router : RouterId) : Type 0 where
  pub few : port_of chip.links link < max_ports
  pub at : slice_get (sends_on (Router router) chip.links) (port_of chip.links link) ≡ Some link.0

-- The router sends on the link through its port.
pub at_port : (chip : ChipData) (link : LinkId) (router : RouterId) → IsChip chip
    → sender_of chip.links link.0 ≡ Some router → IsAtPort chip link router
at_port chip link router is_chip sent =
    let some : IsSome (sender_of chip.links link.0) =
    subst (λ (o : Option RouterId). IsSome o) (sym sent) (search rules) in
    let is = port_at chip link.0 (port_of chip.links link) is_chip some
    (λ other is_other. ap (port_from chip.links link) is_other) in
    let at = subst (λ (o : Option RouterId). IfSome o (λ r.
    slice_get (sends_on (Router r) chip.links) (port_of chip.links link) ≡ Some link.0)) sent is.1 in
    record { few = is.0; at = at }

-- There is one port through which it does.
pub port_once : (chip : ChipData) (link : LinkId) (router : RouterId) (port : ℕ) → IsChip chip
    → sender_of chip.links link.0 ≡ Some router
    → slice_get (sends_on (Router router) chip.links) port ≡ Some link.0
    → port ≡ port_of chip.links link
port_once chip link router port is_chip sent at =
    numbers_from-once (begins_at (Router router)) 0 chip.links port (port_of chip.links link) link.0
    at (at_port chip link router is_chip sent).at

-- What the port of a link is found to be.
pub port_is : (chip : ChipData) (link : LinkId) (port : ℕ) → IsChip chip
    → IsSent chip.links link → IfSome (sender_of chip.links link.0) (λ router.
    slice_get (sends_on (Router router) chip.links) port ≡ Some link.0)
    → port ≡ port_of chip.links link
port_is chip link port is_chip sent found =
    let cases : (o : Option RouterId) → sender_of chip.links link.0 ≡ o → IsSome o
    → IfSome o (λ router. slice_get (sends_on (Router router) chip.links) port ≡ Some link.0)
    → port ≡ port_of chip.links link =
    elim [
      | None ↦ λ is some at. absurd (false≢true some)
      | Some router ↦ λ is some at. port_once chip link router port is_chip is at
    ]
    in cases (sender_of chip.links link.0) refl sent found

-- ---- Routes

-- Routers send on all links of a path but the first.
abbrev pub AreSent : ChipData → List LinkId → Type 0
AreSent chip path = (place : ℕ) (link : LinkId) → slice_get (drop 1 path) place ≡ Some link
    → (router : RouterId) × (sender_of chip.links link.0 ≡ Some router)

-- A sender of each is one of each.
pub all_sent : (chip : ChipData) (path : List LinkId) → AreSent chip path
    → All (IsSent chip.links) (drop 1 path)
all_sent chip path sent = all_from_places (IsSent chip.links) (drop 1 path) (λ place link at.
    let (router, is) = sent place link at in
    subst (λ (o : Option RouterId). IsSome o) (sym is) (search rules))

module _ (chip : ChipData) (is_chip : IsChip chip) (path : List LinkId) (sent : AreSent chip path) where
  -- Their ports fit the bits of one.
  pub ports_fit : All IsPort (ports_along chip.links path)
  ports_fit = all_from_places IsPort (ports_along chip.links path) (λ place port at.
      let (link, there, is) = map-slice_get (port_of chip.links) (drop 1 path) place port at in
      let (router, sends) = sent place link there in
      let few = (at_port chip link router is_chip sends).few in
      omega (arith, few, is))

  -- The digit of a route at a place is the port of the link behind it.
  pub digit_at : (place : ℕ) (link : LinkId) → slice_get (drop 1 path) place ≡ Some link
      → route_of (ports_along chip.links path) / 2 ^ (port_bits * place) % 2 ^ port_bits
      ≡ port_of chip.links link
  digit_at place link at =
      let ports = ports_along chip.links path in
      let port = port_of chip.links link in
      let there : slice_get ports place ≡ Some port =
      slice_get-map (port_of chip.links) (drop 1 path) place
      ∙ ap (option_map (port_of chip.links)) at in
      let (router, sends) = sent place link at in
      let few = (at_port chip link router is_chip sends).few in
      let fits : IsPort port = omega (arith, few) in
      ap (λ (n : ℕ). n % 2 ^ port_bits) (route_of-drop place ports ports_fit
      ∙ ap route_of (drop-slice_get ports place port there))
      ∙ route_of-mod port (drop (place + 1) ports) fits

  -- A short path's route fits its field.
  pub route_fits : length path ≤ max_path_links
      → route_of (ports_along chip.links path) < 2 ^ route_bits
  route_fits short =
      let count : length (ports_along chip.links path) ≡ length path - 1 =
      length-map (drop 1 path) (port_of chip.links) ∙ length-drop 1 path in
      route_of-fits (ports_along chip.links path) ports_fit (omega (arith, count))

-- ---- Link by link, from the last

sender_is : (o : Option RouterId) → IsSome o → (router : RouterId) × (o ≡ Some router)
sender_is None some = absurd (false≢true some)
sender_is (Some router) some = (router, refl)

module _ (chip : ChipData) (is_chip : IsChip chip) (path : List LinkId)
    (sent : All (IsSent chip.links) (drop 1 path)) where
  -- Behind its first link, the ports of a path fit the bits of one.
  fit_behind : (place : ℕ) → 1 ≤ place → All IsPort (map (port_of chip.links) (drop place path))
  fit_behind place some = all_from_places IsPort (map (port_of chip.links) (drop place path))
      (λ k port at.
      let (link, there, is) = map-slice_get (port_of chip.links) (drop place path) k port at in
      let within = slice_get_within (drop place path) k link there in
      let from = place + k - 1 in
      let count : from < length (drop 1 path) =
      omega (arith, within, some, length-drop place path, length-drop 1 path) in
      let same : 1 + from ≡ place + k = omega (arith, some) in
      let here : get_or (drop 1 path) from link ≡ link =
      get_or-drop 1 path from link ∙ ap (λ (i : ℕ). get_or path i link) same
      ∙ sym (get_or-drop place path k link)
      ∙ get_or_from_slice_get (drop place path) k link link there in
      let sends : IsSent chip.links link = subst (IsSent chip.links) here (sent from link count) in
      let (router, by) = sender_is (sender_of chip.links link.0) sends in
      let few = (at_port chip link router is_chip by).few in
      omega (arith, few, is))

  -- One more port in front of a route, which stays in its bits.
  pub route-more : (place : ℕ) (link : LinkId) (port route : ℕ) → 1 ≤ place
      → length path ≤ max_path_links → slice_get path place ≡ Some link
      → port ≡ port_of chip.links link
      → route ≡ route_of (map (port_of chip.links) (drop (place + 1) path))
      → route * 2 ^ port_bits % 2 ^ 32 + port
      ≡ route_of (map (port_of chip.links) (drop place path))
  route-more place link port route some short at is so_far =
      let rest = map (port_of chip.links) (drop (place + 1) path) in
      let next = ap (λ links. route_of (map (port_of chip.links) links))
      (drop-slice_get path place link at) in
      let below = route_of-below rest (fit_behind (place + 1) (omega arith)) in
      let within = slice_get_within path place link at in
      let count = length-map (drop (place + 1) path) (port_of chip.links) in
      let few : port_bits * length rest ≤ port_bits * max_path_links =
      omega (arith, count, length-drop (place + 1) path, short) in
      let most = pow_mono few in
      omega (arith, next, below, most, is, so_far)

-- At the end all links but the first were seen.
pub drop-end : (path : List LinkId) (place : ℕ) → place ≤ 1 → min 1 (length path) ≤ place
    → drop place path ≡ drop 1 path
drop-end [] zero few some = refl
drop-end [] (suc place) few some = refl
drop-end (link ∷ path) place few some =
    let is : place ≡ 1 = omega arith in ap (λ (i : ℕ). drop i (link ∷ path)) is
