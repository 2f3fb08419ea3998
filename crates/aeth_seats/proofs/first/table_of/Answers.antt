use Rattle.std.proofs.Common.{◌∙◌, List, Option, None, Some, length, ap, arith, subst, replicate}
use Rattle.std.proofs.Common.{sym, ◌+◌}
use Rattle.std.proofs.lemmas.Option.{slice_get-get_or}
use Rattle.aeth_base.specs.declared.ids.NiId.{NiId}
use Rattle.aeth_seats.specs.Table.{TableData}
use Rattle.aeth_seats.proofs.SeatingLemmas.{IsSeating, seating-more, seating-all, seating-none}
use Rattle.aeth_seats.proofs.first.table_of.Goals.{in-Some, in_default}
use Rattle.aeth_seats.proofs.first.table_of.Goals as goal

-- Nobody is seated yet.
pub loop-core-init : goal.loop-core-init
loop-core-init c =
    seating-none (length c.args.chip.now.nis) c.args.fixed.now c.in_ok-table.table
    (c.in_ok-table.ensures ∙ ap (λ nis. record {
      nis = nis;
      places = replicate (length c.args.fixed.now) None;
    }) c.nis.ensures.nis)

pub place-requires-clause-core : goal.place-requires-clause-core
place-requires-clause-core c = omega (arith, c.loop-core.invariant.size)

pub place-requires-clause-unseated : goal.place-requires-clause-unseated
place-requires-clause-unseated c = c.loop-core.invariant.later c.loop-core.core (omega arith)

pub place-requires-clause-ni : goal.place-requires-clause-ni
place-requires-clause-ni c =
    let fixed : List (Option NiId) = c.args.fixed.now in
    let known = c.requires.known c.loop-core.core c.in-Some.ni
    (slice_get-get_or fixed c.loop-core.core None c.loop-core-test.true ∙ ap Some c.in-Some.is) in
    omega (arith, known, c.loop-core.invariant.on_chip)

-- One more core.
pub loop-core-preserved : goal.loop-core-preserved
loop-core-preserved c =
    let fixed : List (Option NiId) = c.args.fixed.now in
    let at = slice_get-get_or fixed c.loop-core.core None c.loop-core-test.true in
    elim c.match-to.branch [
      | in-Some w ↦ subst (λ (t : TableData).
          IsSeating (length c.args.chip.now.nis) fixed t (c.loop-core.core + 1))
          (sym (w.table-is ∙ w.place.ensures))
          (seating-more (length c.args.chip.now.nis) fixed c.loop-core.table c.loop-core.core
          (Some w.in-Some.ni) c.loop-core.invariant (at ∙ ap Some w.in-Some.is))
      | in_default w ↦ subst (λ (t : TableData).
          IsSeating (length c.args.chip.now.nis) fixed t (c.loop-core.core + 1))
          (sym w.table-is)
          (seating-more (length c.args.chip.now.nis) fixed c.loop-core.table c.loop-core.core
          None c.loop-core.invariant (at ∙ ap Some w.in_default.is))
    ]

-- All cores were seen.
pub returns-clause-table : goal.returns-clause-table
returns-clause-table c =
    seating-all (length c.args.chip.now.nis) c.args.fixed.now c.loop-core.table c.loop-core.core
    c.loop-core.invariant c.loop-core-test.false

pub returns-clause-few : goal.returns-clause-few
returns-clause-few c =
    omega (arith, c.loop-core.invariant.on_chip, c.nis.ensures.nis, c.nis.ensures.most)
