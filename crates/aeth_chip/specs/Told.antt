-- What the tables of a chip file tell, whether or not they keep the rules.
--
--   version_of, allows_delays, slots_of, routers_of, nis_of, link_tables    the root's keys
--   node_of, link_of, told_chip    nodes and links by the names of their ends
-- This project's own.
use Rattle.std.proofs.Common.{◌≤◌, ℕ, ℤ, pos, negsuc, ◌==◌, codes, Bool, false, List, map, Option}
use Rattle.std.proofs.Common.{Some, None, unwrap_or}
use Rattle.toml.specs.Data.{Members}
use Rattle.aeth_base.specs.Limits.{max_link_delay}
use Rattle.aeth_chip.specs.declared.node.Link.{Link}
use Rattle.aeth_chip.specs.declared.node.Node.{Node, TheVariants.Router, TheVariants.Ni}
use Rattle.aeth_chip.specs.Chip.{ChipData}
use Rattle.aeth_document.specs.Values.{integer_at, integer_if, tables_at, text_at, texts_at}
use Rattle.aeth_document.specs.Walks.{place_of, size_of}

-- The version of the format.
abbrev pub version_of : Members → ℤ
version_of root = integer_at (codes "version") root

-- Whether links may have delays: from version 2 on.
abbrev pub allows_delays : ℤ → Bool
allows_delays (pos version) = version == 2
allows_delays (negsuc version) = false

-- The size of the slot table.
abbrev pub slots_of : Members → ℤ
slots_of root = integer_at (codes "slots") root

-- The texts that name routers.
abbrev pub routers_of : Members → List (List ℕ)
routers_of root = texts_at (codes "routers") root

-- The texts that name network interfaces.
abbrev pub nis_of : Members → List (List ℕ)
nis_of root = texts_at (codes "nis") root

-- The tables of the links.
abbrev pub link_tables : Members → List Members
link_tables root = tables_at (codes "link") root

-- The delay of a link, 1 where none stands there.
abbrev pub delay_at : Members → ℤ
delay_at link = unwrap_or (integer_if (codes "delay") link) (pos 1)

-- The delay of a link is in its range.
abbrev pub HasDelay : Members → Type 0
HasDelay link = (1 ≤ size_of (delay_at link)) × (size_of (delay_at link) ≤ max_link_delay)

-- The node at the place of a router, or else at that of a network interface.
abbrev pub node_at : Option ℕ → Option ℕ → Option Node
node_at (Some r) ni = Some (Router (record { 0 = r }))
node_at None (Some n) = Some (Ni (record { 0 = n }))
node_at None None = None

-- The node that a text names.
unfoldable pub node_of : List (List ℕ) → List (List ℕ) → List ℕ → Option Node
node_of routers nis text = node_at (place_of routers text) (place_of nis text)

-- A node that may be unknown; router 0 stands for an unknown one.
abbrev pub known : Option Node → Node
known node = unwrap_or node (Router (record { 0 = 0 }))

-- The link of a table.
abbrev pub link_of : List (List ℕ) → List (List ℕ) → Members → Link
link_of routers nis link = record {
  from = known (node_of routers nis (text_at (codes "from") link));
  to = known (node_of routers nis (text_at (codes "to") link));
  delay = size_of (delay_at link);
}

-- The links of the tables, in their order.
abbrev pub told_links : Members → List Link
told_links root = map (link_of (routers_of root) (nis_of root)) (link_tables root)

-- The chip of a root table.
abbrev pub told_chip : Members → ChipData
told_chip root = record {
  slots = size_of (slots_of root);
  routers = routers_of root;
  nis = nis_of root;
  links = told_links root;
}
