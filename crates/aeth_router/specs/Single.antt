-- Which ports of a router with a table send on what comes by a wire.
--
--   is_from, is_sent_by      whether an entry is the place of a wire, and whether a port sends on what it has
--   AreSingle, IsAlone      no two ports send on what one wire has, and one port alone does
--   IsTableNoted      what is noted of a router with a table
--
-- This project's own.
use Rattle.std.proofs.Common.{◌≡◌, ◌<◌, ℕ, ◌==◌, Bool, true, false, Option, Some, None, List}
use Rattle.std.proofs.Common.{length, replicate, slice_get}
use Rattle.std.specs.Option.{option_map_or}
use Rattle.aeth_router.specs.TableRouter.{IsTableRouter, TableRouterState, entry_at}

-- Whether an entry is the place of a wire among those on which a router receives.
abbrev pub is_from : List ℕ → ℕ → Option ℕ → Bool
is_from incoming wire None = false
is_from incoming wire (Some place) =
    option_map_or (λ other. other == wire) (slice_get incoming place) false

-- Whether a port of a router with a table sends on in a slot what comes by a wire.
abbrev pub is_sent_by : TableRouterState → ℕ → ℕ → ℕ → Bool
is_sent_by router slot wire port =
    is_from router.incoming wire (entry_at router.entries router.slots port slot)

-- No two ports send on in one slot what comes by one wire.
abbrev pub AreSingle : TableRouterState → Type 0
AreSingle router =
    (slot wire port other : ℕ) → slot < router.slots → port < length router.outgoing
    → other < length router.outgoing → is_sent_by router slot wire port ≡ true
    → is_sent_by router slot wire other ≡ true → port ≡ other

-- No other port sends on in a slot what comes by the wire of an entry.
abbrev pub IsAlone : TableRouterState → ℕ → ℕ → Option ℕ → Type 0
IsAlone router port slot entry =
    (wire other : ℕ) → is_from router.incoming wire entry ≡ true → other < length router.outgoing
    → is_sent_by router slot wire other ≡ true → port ≡ other

-- What is noted of one: where no flit is noted, none is held, and where it is noted so, no two ports
-- send on in one slot what comes by one wire.
pub record IsTableNoted (is_holding is_single : Bool) (router : TableRouterState) : Type 0 where
  pub sound : IsTableRouter router
  pub idle : is_holding ≡ false → router.held ≡ replicate (length router.held) None
  pub single : is_single ≡ true → AreSingle router
