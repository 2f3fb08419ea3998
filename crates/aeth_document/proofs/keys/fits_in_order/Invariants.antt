use Rattle.std.proofs.Common.{◌≡◌}
use Rattle.toml.specs.View.{table_view, members_view}
use Rattle.aeth_document.specs.{Keys.entries_of, Keys.fields_view, KeysInOrder.fits_in_order}
use Rattle.aeth_document.proofs.keys.fits_in_order.Given as goal

abbrev pub invariant-loop-key : goal.invariant-loop-key
invariant-loop-key l =
    fits_in_order (fields_view l.left) (entries_of (members_view l.key-iterator))
    ≡ fits_in_order (fields_view l.fields) (entries_of (table_view l.table))
