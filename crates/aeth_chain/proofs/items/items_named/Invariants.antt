use Rattle.std.proofs.Common.{◌≡◌, map, take}
use Rattle.aeth_chain.specs.ChainItems.{item_of}
use Rattle.aeth_chain.proofs.items.items_named.Given as goal

-- The items of the names so far.
abbrev pub invariant-loop-one : goal.invariant-loop-one
invariant-loop-one l = l.items.items ≡ map (item_of l.app) (take l.one-index l.names)
