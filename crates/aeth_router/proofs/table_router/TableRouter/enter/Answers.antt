use Rattle.std.proofs.Common.{◌∙◌, ap, rules, take, take_all}
use Rattle.aeth_router.specs.Rows.{with_table}
use Rattle.aeth_router.proofs.RowLemmas.{row-fits, with_table-more}
use Rattle.aeth_router.proofs.table_router.TableRouter.enter.Goals as goal

-- No entry is left before the first row.
pub loop-row-init : goal.loop-row-init
loop-row-init c = search rules

-- A row that is one of the router is in range.
pub enter_row-requires : goal.enter_row-requires
enter_row-requires c =
    row-fits (take c.loop-row.row-index c.args.rows.now) c.args.self.now c.loop-row.self _
    c.loop-row.invariant (c.requires c.loop-row.row-index _ c.loop-row-test.true)

-- One row more has entered.
pub loop-row-preserved : goal.loop-row-preserved
loop-row-preserved c =
    with_table-more c.args.rows.now c.args.self.now c.loop-row.self c.enter_row.new.self
    c.loop-row.row-index _ c.loop-row-test.true c.loop-row.invariant c.enter_row.ensures

-- All have entered.
pub returns : goal.returns
returns c =
    c.loop-row.invariant
    ∙ ap (λ rows. with_table rows c.args.self.now)
    (take_all c.loop-row.row-index c.args.rows.now c.loop-row-test.false)
