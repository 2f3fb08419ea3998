use Rattle.std.proofs.Common.{◌≡◌, drop}
use Rattle.aeth_document.specs.{Keys.fields_view, KeysInOrder.are_optional}
use Rattle.aeth_document.proofs.keys.are_optional.Given as goal

abbrev pub invariant-loop-field : goal.invariant-loop-field
invariant-loop-field l =
    are_optional (fields_view (drop l.field-index l.fields)) ≡ are_optional (fields_view l.fields)
