use Rattle.std.proofs.Common.{◌+◌, ◌-◌, ◌∙◌, ap}
use Rattle.aeth_app.specs.{App.wish_of, declared.connection.Wish.Wish}
use Rattle.aeth_check.proofs.SlotLaws.{suffices}
use Rattle.aeth_check.proofs.grants.fits_slots.Goals as goal

-- The need and the gap are those of the channel.
pub returns : goal.returns
returns c =
    let wish = wish_of c.connection.result c.args.grant.now.side in
    suffices c.args.chip.now c.args.app.now c.args.grant.now c.connection.result _
    c.need-need.result c.saturating_sub-gap.result c.suitable.result c.connection.ensures.connection
    (rw c.connection.ensures.connection at c.need-need.ensures.need)
    (c.saturating_sub-gap.ensures
    ∙ ap (λ (w : Wish). w.latency + 1 - c.path_delay.result) c.wish_of-wish.ensures.wish
    ∙ ap (λ d. wish.latency + 1 - d) c.path_delay.ensures.delay)
    c.suitable.ensures.suitable
