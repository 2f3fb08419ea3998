use Rattle.std.proofs.Common.{sym, subst, All}
use Rattle.aeth_audit.{specs.Tables.IsAddressable, proofs.TableLemmas.addressable}
use Rattle.aeth_audit.proofs.table.Table.of.Goals as goal

-- The grants can be addressed.
pub addresses_of-requires-clause-grants : goal.addresses_of-requires-clause-grants
addresses_of-requires-clause-grants c =
    subst (All (IsAddressable c.args.chip.now c.args.app.now)) (sym c.grants-grants.ensures)
    (addressable c.args.chip.now c.args.app.now c.args.plan.now c.requires)

-- What was made is the plan's.
pub returns : goal.returns
returns c = record {
  addresses = rw (c.seats.ensures, c.grants-grants.ensures) at c.in_ok-addresses.ensures;
  slots = c.in_ok-places.ensures.slots;
  size = c.in_ok-places.ensures.size;
  places = rw c.grants-grants.ensures at c.in_ok-places.ensures.places;
}
