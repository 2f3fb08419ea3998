use Rattle.std.proofs.Common.{◌≡◌, ◌∙◌, List, ap, arith, drop, length, refl, take}
use Rattle.std.proofs.lemmas.List.{take_rest, with_items_is}
use Rattle.std.specs.Vec.{with_items}
use Rattle.aeth_report.specs.declared.log.Landing.{Landing}
use Rattle.aeth_running.specs.Logged.{rows_logged}
use Rattle.aeth_network.proofs.logging.log_session.Goals as goal

-- Its rows are logged, and its numbers.
pub returns : goal.returns
returns c =
    let landings = c.args.landings.now in
    let cycles = c.args.cycles in
    let first = c.args.channel_state.now.first in
    let inside = c.session.inside in
    let own = c.log_rows.auto.rows in
    let count = c.deref_mut.ensures.len in
    let size : length c.log_rows.new.rows ≡ c.truncate.new.self.len = omega arith in
    let is : (with_items c.truncate.new.self c.log_rows.new.rows).items
    ≡ rows_logged cycles landings (take c.landed_below-landed.result inside.rows.items)
    (drop first landings) =
    with_items_is c.truncate.new.self c.log_rows.new.rows size
    ∙ c.log_rows.ensures cycles landings
    ∙ ap (rows_logged cycles landings c.deref_mut.result.now) (take_rest landings first)
    ∙ ap (λ (rows : List Landing). rows_logged cycles landings rows (drop first landings))
    (c.deref_mut.ensures.value ∙ c.truncate.ensures.items) in
    let landed = c.landed_below-landed.ensures.count in
    rw (← c.session.view_is) (rw (is, landed) refl)
