use Rattle.std.proofs.Common.{◌≡◌, drop}
use Rattle.toml.specs.View.{view}
use Rattle.aeth_document.specs.Keys.{fields_view, is_expected}
use Rattle.aeth_document.proofs.keys.is_expected.Given as goal

abbrev pub invariant-loop-field : goal.invariant-loop-field
invariant-loop-field l =
    is_expected (fields_view (drop l.field-index l.fields)) (l.key, view l.value)
    ≡ is_expected (fields_view l.fields) (l.key, view l.value)
