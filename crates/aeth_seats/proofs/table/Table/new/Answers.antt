use Rattle.std.proofs.Common.{◌∙◌, None, Option, length, ap, arith}
use Rattle.std.proofs.lemmas.List.{length-replicate}
use Rattle.aeth_seats.{specs.Places.Place, proofs.TableLemmas.table-none}
use Rattle.aeth_seats.proofs.table.Table.new.Goals as goal

-- No seat is taken.
pub invariant_of-result : goal.invariant_of-result
invariant_of-result c =
    let places = c.in_ok-places.places.items in
    let nobody : Option Place = None in
    let size = ap length c.in_ok-places.ensures ∙ length-replicate c.args.cores nobody in (
      record { nis = c.requires.nis; cores = omega (arith, size, c.requires.cores) },
      table-none c.args.nis c.args.cores places c.in_ok-taken.taken.items
          c.in_ok-places.ensures c.in_ok-taken.ensures,
    )
