use Rattle.std.proofs.Common.{◌≡◌, drop, fold, option_map}
use Rattle.toml.specs.View.{table_view}
use Rattle.aeth_document.specs.Keys.{fields_view, missing_keys, least, lesser}
use Rattle.aeth_document.proofs.keys.missing_key.Given as goal

abbrev pub invariant-loop-field : goal.invariant-loop-field
invariant-loop-field l =
    fold lesser (option_map (λ s. s.now) l.best)
    (missing_keys (table_view l.table) (fields_view (drop l.field-index l.fields)))
    ≡ least (missing_keys (table_view l.table) (fields_view l.fields))
