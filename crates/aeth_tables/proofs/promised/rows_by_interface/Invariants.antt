use Rattle.std.proofs.Common.{◌≡◌, length, take}
use Rattle.aeth_tables.specs.TableText.{AreOwn}
use Rattle.aeth_tables.proofs.promised.rows_by_interface.Given as goal

-- The rows so far were put.
abbrev pub invariant-loop-one : goal.invariant-loop-one
invariant-loop-one l = record {
  size : length l.lists.items ≡ l.nis;
  own : AreOwn l.nis (take l.one-index l.rows) l.lists.items;
}
