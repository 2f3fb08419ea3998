use Rattle.std.proofs.Common.{◌≡◌, ◌++◌, take, flat_map}
use Rattle.aeth_design_commands.specs.App.{need_text}
use Rattle.aeth_design_commands.proofs.app.push_needs.Given as goal

-- The needs of the connections that were gone over stand behind the text.
abbrev pub invariant-loop-connection : goal.invariant-loop-connection
invariant-loop-connection l =
    l.text.items ≡ l.fn.text.items
    ++ flat_map (need_text l.app.slots) (take l.connection l.app.connections)
