use Rattle.std.proofs.Common.{◌≡◌, fold, take}
use Rattle.aeth_network.specs.Routes.{entered_use, rows_in}
use Rattle.aeth_network.proofs.tables.enter_uses.Given as goal

-- The rows of the use cases so far have entered.
abbrev pub invariant-loop-one : goal.invariant-loop-one
invariant-loop-one l = l.components ≡ record l.fn.components {
  parts = fold (entered_use (rows_in l.tables)) l.fn.components.parts (take l.one-index l.uses);
}
