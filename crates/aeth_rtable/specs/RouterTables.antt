-- What the tables of routers hold in a use case, by the grants of a plan.
--
--   Enters, IsEntered      a grant enters a row, and some grant of a use case does
--   IsBefore      one row comes before another
--   AreTables      rows are the tables of all routers
-- Slots and links: after Æthereal (2005). Tables in routers: this project's own.
use Rattle.std.proofs.Common.{◌≡◌, ◌+◌, ◌%◌, ◌<◌, ◌⊎◌, ℕ, IsTrue, List, Some, Contains, slice_get}
use Rattle.std.specs.List.{AllPairs}
use Rattle.aeth_base.specs.declared.ids.LinkId.{LinkId}
use Rattle.aeth_chip.specs.{Chip.ChipData, Nodes.sends_on, Paths.offset, declared.node.Link.Link}
use Rattle.aeth_chip.specs.{declared.node.Node.TheVariants.Router}
use Rattle.aeth_group.specs.{Members.GroupsData, Members.has_unit, declared.grant.Grant.Grant}
use Rattle.aeth_plan.specs.Plan.{PlanData}
use Rattle.aeth_router.specs.declared.router_row.RouterRow.{RouterRow}

-- A grant enters a row: the router sends on a link of the grant's path through the row's port, flits
-- of the grant enter this link in the row's slot, and they come on the link before, which is the row's.
pub record Enters (links : List Link) (grant : Grant) (row : RouterRow) : Type 0 where
  pub place : ℕ
  pub link : LinkId
  pub start : ℕ
  pub before : slice_get grant.path place ≡ Some row.from
  pub behind : slice_get grant.path (place + 1) ≡ Some link
  pub port : slice_get (sends_on (Router row.router) links) row.port ≡ Some link.0
  pub starts : Contains grant.slots.slots start
  pub slot : (start + offset links grant.path (place + 1)) % grant.slots.size ≡ row.slot

-- A grant of a use case enters a row.
pub record IsEntered (chip : ChipData) (groups : GroupsData) (plan : PlanData) (u : ℕ)
    (row : RouterRow) : Type 0 where
  pub grant : Grant
  pub granted : Contains plan.grants grant
  pub in_use : IsTrue (has_unit groups grant.unit u)
  pub enters : Enters chip.links grant row

-- A row comes before another: its router does, or of one router its port, or of one port its slot.
abbrev pub IsBefore : RouterRow → RouterRow → Type 0
IsBefore a b = (a.router.0 < b.router.0) ⊎ ((a.router.0 ≡ b.router.0)
    × ((a.port < b.port) ⊎ ((a.port ≡ b.port) × (a.slot < b.slot))))

-- Rows are the tables of all routers in a use case.
pub record AreTables (chip : ChipData) (groups : GroupsData) (plan : PlanData) (u : ℕ)
    (rows : List RouterRow) : Type 0 where
  -- Each row is one that a grant of the use case enters.
  pub entered : (row : RouterRow) → Contains rows row → IsEntered chip groups plan u row
  -- Each that a grant enters is there.
  pub all : (row : RouterRow) → IsEntered chip groups plan u row → Contains rows row
  -- They ascend by router, port and slot: so no two are of one slot of one port.
  pub ascends : AllPairs IsBefore rows
