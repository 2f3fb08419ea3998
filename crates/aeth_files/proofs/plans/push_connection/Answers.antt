use Rattle.std.proofs.Common.{append-nil, arith, refl, sym}
use Rattle.std.proofs.lemmas.Option.{slice_get_past}
use Rattle.aeth_files.proofs.plans.push_connection.Goals as goal

-- The connection has a name.
pub returns-in_ok-extend_from_slice-clause-ok : goal.returns-in_ok-extend_from_slice-clause-ok
returns-in_ok-extend_from_slice-clause-ok c =
    rw (
      c.in_ok-extend_from_slice.ensures.items,
      c.as_bytes.ensures.bytes,
      c.connection-connection.ensures.connection,
    ) refl

-- There is no such connection.
pub returns-else-conn-connections-clause-ok : goal.returns-else-conn-connections-clause-ok
returns-else-conn-connections-clause-ok c =
    rw (slice_get_past c.args.app.now.connections c.args.conn.0 (omega arith))
    (sym (append-nil c.args.text.now.items))
