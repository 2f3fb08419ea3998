-- A router that looks a table up in place of reading headers: its state, what it emits, and what it
-- latches.
--
--   TableRouterState, IsTableRouter      the state, and what holds of every one
--   new_table_router, with_entry      the state at first, and with another entry
--   entry_at, sent_from, sent_on      the entry of a port for a slot, and what goes out by it
--   routed      what a port carries in a slot
--   table_outputs and its kin      the meanings of a router with a table as a component
--
-- Routers that forward by one hop in a cycle: after Æthereal (2005). Tables in routers: this
-- project's own.
use Rattle.std.proofs.Common.{◌≡◌, ◌≤◌, ℕ, ◌+◌, ◌*◌, ◌%◌, ◌==◌, Bool, Option, None, option_and_then}
use Rattle.std.proofs.Common.{option_map, List, length, map, replicate, position}
use Rattle.std.specs.List.{slice_index_or, slice_set}
use Rattle.aeth_base.specs.declared.ids.{LinkId.LinkId, RouterId.RouterId}
use Rattle.aeth_chip.specs.{Chip.ChipData, Limits.max_links, Nodes.receives_on, Nodes.sends_on}
use Rattle.aeth_chip.specs.{declared.node.Node.TheVariants.Router}
use Rattle.aeth_clocked.specs.{Wires.flit_on, declared.flit.Flit.Flit}
use Rattle.aeth_router.specs.Ports.{hopped}
use Rattle.aeth_router.specs.Router.{AreDistinctLinks, entering_wires, is_among}

-- A router with a table: its number, the numbers of the links that enter it, those of their last
-- wires, on which it receives, those of the links on which it sends, which are its ports, the slots
-- of its table, for each slot of each port the place of an entering link or none, and the flit or
-- none that it holds from each wire on which it receives.
pub record TableRouterState : Type 0 where
  pub number : RouterId
  pub links : List ℕ
  pub incoming : List ℕ
  pub outgoing : List ℕ
  pub slots : ℕ
  pub entries : List (Option ℕ)
  pub held : List (Option Flit)

-- What holds of every router with a table.
pub record IsTableRouter (router : TableRouterState) : Type 0 where
  pub some_slots : 1 ≤ router.slots
  pub few : length router.links ≤ max_links
  pub places : length router.held ≡ length router.incoming
  pub apart : AreDistinctLinks router.outgoing
  pub entries : length router.entries ≡ length router.outgoing * router.slots

-- The router of this number of a chip, without entries and without flits.
abbrev pub new_table_router : RouterId → ChipData → TableRouterState
new_table_router router chip = record {
  number = router;
  links = receives_on (Router router) chip.links;
  incoming = entering_wires router chip.links;
  outgoing = sends_on (Router router) chip.links;
  slots = chip.slots;
  entries = replicate (length (sends_on (Router router) chip.links) * chip.slots) None;
  held = replicate (length (entering_wires router chip.links)) None;
}

-- The place of a link among those that enter a router.
abbrev pub place_from : List ℕ → Option LinkId → Option ℕ
place_from links from =
    option_and_then (λ link. position (λ other. other == link.0) links) from

-- The router with this entry for a slot of a port.
abbrev pub with_entry : ℕ → ℕ → Option LinkId → TableRouterState → TableRouterState
with_entry port slot from router = record router {
  entries = slice_set router.entries (port * router.slots + slot) (place_from router.links from);
}

-- The entry of a port for a slot, in a table of so many slots.
abbrev pub entry_at : List (Option ℕ) → ℕ → ℕ → ℕ → Option ℕ
entry_at entries slots port slot = slice_index_or entries (port * slots + slot) None

-- What an entry sends on: the flit that is held from its place, behind its hop.
abbrev pub sent_from : List (Option Flit) → Option ℕ → Option Flit
sent_from held entry =
    option_map hopped (option_and_then (λ place. slice_index_or held place None) entry)

-- What a link carries, where it is said what each port does.
abbrev pub sent_on : List ℕ → (ℕ → Option Flit) → ℕ → Option Flit
sent_on outgoing carried link =
    option_and_then carried (position (λ other. other == link) outgoing)

-- What a port carries in a slot: what its entry sends on.
abbrev pub routed : TableRouterState → ℕ → ℕ → Option Flit
routed router slot port = sent_from router.held (entry_at router.entries router.slots port slot)

-- A router with a table sends on its outgoing links.
abbrev pub table_outputs : TableRouterState → ℕ → Bool
table_outputs router link = is_among router.outgoing link

-- It receives on its incoming wires.
abbrev pub table_inputs : TableRouterState → ℕ → Bool
table_inputs router link = is_among router.incoming link

-- In every cycle it emits what its ports carry in the cycle's slot.
abbrev pub table_emit : TableRouterState → ℕ → ℕ → Option Flit
table_emit router cycle link = sent_on router.outgoing (routed router (cycle % router.slots)) link

-- Behind that it holds no flit, and has its entries.
abbrev pub table_after : TableRouterState → ℕ → TableRouterState
table_after router cycle = record router { held = replicate (length router.held) None }

-- It holds what these wires have on its incoming ones, and has its entries.
abbrev pub table_absorb : TableRouterState → List (Option Flit) → TableRouterState
table_absorb router wires = record router { held = map (flit_on wires) router.incoming }
