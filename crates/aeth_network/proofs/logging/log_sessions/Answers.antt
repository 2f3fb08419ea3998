use Rattle.std.proofs.Common.{◌≡◌, ◌∙◌, ap, arith, length, refl}
use Rattle.std.proofs.lemmas.List.{with_items_is}
use Rattle.std.specs.Vec.{with_items}
use Rattle.aeth_report.specs.Log.{LogData}
use Rattle.aeth_network.{specs.Logging.channels_by, proofs.LoggingLemmas.logged-all}
use Rattle.aeth_network.proofs.logging.log_sessions.Goals as goal

-- Its channels are logged, and its flits.
pub returns : goal.returns
returns c =
    let session_starts = c.args.session_starts.now in
    let replaced = c.args.replaced.now in
    let outside = c.args.outside.now in
    let landings = c.args.components.now.landings in
    let channel_states = c.args.components.now.channel_states in
    let inside = c.log.inside in
    let followed = c.log_followed.new.channels in
    let size = c.deref_mut.ensures.len in
    let as_many = c.log_followed.auto.channels in
    let middle = with_items_is inside.channels followed (omega arith) in
    let again = c.deref_mut-2.ensures.value ∙ middle in
    let last_size = c.deref_mut-2.ensures.len in
    let last_many = c.log_last.auto.channels in
    let kept = ap (λ (log : LogData). length log.channels) c.log.view_is in
    let named = c.requires.channels in
    let counted = c.requires.gone in
    let channels : (with_items (with_items inside.channels followed) c.log_last.new.channels).items
    ≡ channels_by inside.cycles landings session_starts replaced channel_states outside 0
    inside.channels.items =
    with_items_is (with_items inside.channels followed) c.log_last.new.channels (omega arith)
    ∙ c.log_last.ensures
    ∙ rw (
      again,
      c.log_followed.ensures.channels,
      c.log_followed.ensures.gone,
      c.deref_mut.ensures.value,
      c.landings-landings.ensures,
      c.channel_states-channel_states.ensures,
    )
    (logged-all inside.cycles landings session_starts replaced channel_states outside
    inside.channels.items
    c.args.gone.now (omega arith)) in
    rw (← c.log.view_is) (rw (channels, c.copy_from_slice.ensures.items, c.flits.ensures) refl)
