use Rattle.std.proofs.Common.{append-nil, arith, sym}
use Rattle.std.proofs.lemmas.Option.{slice_get-map, slice_get_past}
use Rattle.aeth_app.specs.declared.connection.Connection.{Connection}
use Rattle.aeth_explain.proofs.text_printing.push_name.Goals as goal

-- There is no such connection.
pub returns-else-conn-connections : goal.returns-else-conn-connections
returns-else-conn-connections c = record {
  ok = rw (
    slice_get-map (λ (one : Connection). one.name) c.args.app.now.connections c.args.conn.0,
    slice_get_past c.args.app.now.connections c.args.conn.0 (omega arith),
  )
      (sym (append-nil c.args.out.now.items));
  err = tt;
}
