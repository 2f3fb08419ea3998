use Rattle.std.proofs.Common.{◌∷◌, Contains, length, refl}
use Rattle.std.proofs.lemmas.List.Elements.{All-head, All-tail}
use Rattle.aeth_trace.specs.declared.switches.SwitchRow.{SwitchRow}
use Rattle.aeth_scheduling.proofs.EnteringLemmas.{closing_in-none, rows-from}
use Rattle.aeth_scheduling.proofs.closing.close_in.Goals as goal

-- No row closes it.
pub returns-then-stays-clause-close : goal.returns-then-stays-clause-close
returns-then-stays-clause-close c =
    let entering = c.args.entering.now in
    let IsThere = λ (row : SwitchRow). Contains entering.entered.now row.to in
    let kept = c.stays.ensures.0 c.if-stays.true in
    rw (
      c.close_with.ensures,
      closing_in-none c.args.task.now.groups.now c.args.conn.0
          entering.entered.now entering.row.now.to entering.later.now kept
          (All-head IsThere entering.row.now entering.later.now c.requires.each)
          (All-tail IsThere entering.row.now entering.later.now c.requires.each),
    ) refl

-- The rows that follow are known.
pub close_over-requires-clause-rows : goal.close_over-requires-clause-rows
close_over-requires-clause-rows c =
    let entering = c.args.entering.now in
    rows-from (length c.args.task.now.groups.now.uses) (entering.row.now ∷ entering.later.now) 1
    c.requires.rows_are
