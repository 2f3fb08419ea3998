use Rattle.std.proofs.Common.{arith, length}
use Rattle.aeth_explain.proofs.MaskLemmas.{empty-table}
use Rattle.aeth_explain.proofs.slot_tables.SlotTables.new.Goals as goal

-- They have none of the grants.
pub returns-clause-tables : goal.returns-clause-tables
returns-clause-tables c grants = record {
  within = omega arith;
  rows = rw c.uses.ensures.uses at c.in_ok-masks.ensures.count;
  table = empty-table c.args.chip.now.slots (length c.args.chip.now.links) c.in_ok-masks.masks.items
      c.in_ok-masks.ensures.empty;
}
