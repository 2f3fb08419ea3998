-- The ports of a router, as a chip tells its outgoing links.
use Rattle.std.proofs.Common.{◌≡◌, ◌≤◌, ◌<◌, ◌∙◌, ℕ, List, get_or, length, map, sym, ap, arith}
use Rattle.std.proofs.Common.{slice_index}
use Rattle.std.proofs.lemmas.List.{get_or-map, length-map}
use Rattle.std.proofs.lemmas.Option.{slice_get-get_or, slice_get_within}
use Rattle.aeth_base.specs.declared.ids.{LinkId.LinkId, RouterId.RouterId}
use Rattle.aeth_chip.specs.{Chip.ChipData, Chip.IsChip, Limits.max_ports, Nodes.begins_at}
use Rattle.aeth_chip.specs.{Nodes.sends_on, declared.node.Node.TheVariants.Router}
use Rattle.aeth_chip.proofs.NodeLemmas.{length-numbers_from, sends_on-found}

module _ (chip : ChipData) (router : RouterId) (links : List LinkId)
    (are : map (λ (link : LinkId). link.0) links ≡ sends_on (Router router) chip.links) where
  -- There are as many as links.
  pub port_count : length links ≡ length (sends_on (Router router) chip.links)
  port_count = sym (length-map links (λ (link : LinkId). link.0)) ∙ ap length are

  -- They are few.
  pub few_ports : IsChip chip → router.0 < length chip.routers → length links ≤ max_ports
  few_ports is_chip known =
      let count = length-numbers_from (begins_at (Router router)) 0 chip.links in
      let few = (is_chip.ports router known).sends in
      omega (arith, port_count, count, few)

  module _ (port : ℕ) (within : port < length links) where
    -- The link of a port.
    abbrev pub link_there : LinkId
    link_there = get_or links port (record { 0 = 0 })

    pub port_link : link_there.0 ≡ slice_index (sends_on (Router router) chip.links) port
    port_link = sym (get_or-map (λ (link : LinkId). link.0) links port (record { 0 = 0 }) 0 within)
        ∙ ap (λ (ns : List ℕ). get_or ns port 0) are

    -- It is one of the chip's.
    pub port_known : link_there.0 < length chip.links
    port_known =
        let sends = sends_on (Router router) chip.links in
        let inside : port < length sends = omega (arith, within, port_count) in
        let found = sends_on-found chip.links (Router router) port (get_or sends port 0)
        (slice_get-get_or sends port 0 inside) in
        let below = slice_get_within chip.links (get_or sends port 0) found.link found.at in
        omega (arith, below, port_link)
