use Rattle.std.proofs.Common.{◌≡◌}
use Rattle.toml.specs.View.{table_view, members_view}
use Rattle.aeth_document.specs.Keys.{fields_view, first_of, misfit_keys, entries_of}
use Rattle.aeth_document.proofs.keys.first_misfit.Given as goal

abbrev pub invariant-loop-key : goal.invariant-loop-key
invariant-loop-key l = first_of (misfit_keys (fields_view l.fields)
    (entries_of (members_view l.key-iterator)))
    ≡ first_of (misfit_keys (fields_view l.fields) (entries_of (table_view l.table)))
