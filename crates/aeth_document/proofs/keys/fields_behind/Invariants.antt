use Rattle.std.proofs.Common.{◌≡◌, length}
use Rattle.toml.specs.View.{view}
use Rattle.aeth_document.specs.{Keys.fields_view, KeysInOrder.fields_behind}
use Rattle.aeth_document.proofs.keys.fields_behind.Given as goal

abbrev pub invariant-loop-field : goal.invariant-loop-field
invariant-loop-field l =
    fields_behind (fields_view l.left) (l.key, view l.value)
    ≡ fields_behind (fields_view l.fields) (l.key, view l.value)

abbrev pub decreases-loop-field : goal.decreases-loop-field
decreases-loop-field l = length l.left
