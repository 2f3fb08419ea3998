use Rattle.std.proofs.Common.{◌≡◌, ◌++◌, false, map, pos}
use Rattle.std.specs.List.{AllByRecursion}
use Rattle.aeth_chip.specs.{ChipFile.unknown_end, NamedEnds.AreNamed, Told.HasDelay, Told.delay_at}
use Rattle.aeth_chip.specs.{Told.link_of}
use Rattle.aeth_document.specs.{Arrays.tables_in, Walks.walked, declared.walk.Walk.TheVariants.At}
use Rattle.aeth_chip.proofs.links.links_of.Given as goal

abbrev pub invariant-loop-table : goal.invariant-loop-table
invariant-loop-table l = record {
  links : l.links.items
      ++ map (link_of l.names.routers l.names.nis) (tables_in l.table-iterator)
      ≡ map (link_of l.names.routers l.names.nis) (tables_in l.fn.tables);
  unknown : walked l.walk
      (map (unknown_end l.names.routers l.names.nis) (tables_in l.table-iterator))
      ≡ walked (At 0)
      (map (unknown_end l.names.routers l.names.nis) (tables_in l.fn.tables));
  ends : AreNamed l.names.routers l.names.nis l.before;
  delays : AllByRecursion HasDelay (tables_in l.table-iterator);
  none : l.has_delays ≡ false
      → AllByRecursion (λ link. delay_at link ≡ pos 1) (tables_in l.table-iterator);
}
