use Rattle.std.{proofs.Common.◌≡◌, proofs.Common.map, proofs.Common.codes, specs.List.filter_map}
use Rattle.aeth_document.specs.{Arrays.tables_in, Values.text_if, Walks.walked}
use Rattle.aeth_app.specs.Unknown.{unknown}
use Rattle.aeth_app.proofs.unknown.interfaces.Given as goal

abbrev pub invariant-loop-core : goal.invariant-loop-core
invariant-loop-core l =
    walked l.walk
    (map (unknown l.chip.nis) (filter_map (text_if (codes "ni")) (tables_in l.core-iterator)))
    ≡ walked l.fn.walk
    (map (unknown l.chip.nis) (filter_map (text_if (codes "ni")) (tables_in l.fn.cores)))
