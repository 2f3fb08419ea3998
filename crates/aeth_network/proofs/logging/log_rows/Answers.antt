use Rattle.std.proofs.Common.{◌∙◌, arith, get_or, refl}
use Rattle.aeth_network.proofs.LoggingLemmas.{logged-row, logged-rows}
use Rattle.aeth_network.proofs.logging.log_rows.Goals as goal

-- One row more is logged.
pub loop-place-preserved : goal.loop-place-preserved
loop-place-preserved c = λ cycles all.
    let within = c.loop-place-test.true in
    logged-row cycles all c.args.rows.now c.loop-place.rows c.args.landings.now c.loop-place.place
    (get_or c.args.landings.now c.loop-place.place 0)
    (record { offered = 0; landed = 0; due = 0; value = 0 }) _ within (omega arith)
    (c.loop-place.invariant cycles all) refl refl

-- All are.
pub returns : goal.returns
returns c = λ cycles all.
    c.loop-place.invariant cycles all
    ∙ logged-rows cycles all c.args.rows.now c.args.landings.now c.loop-place.place
    c.loop-place-test.false
