use Rattle.std.proofs.Common.{◌≡◌, ◌∙◌, ap, arith, length, map, refl, replicate}
use Rattle.std.proofs.lemmas.List.{with_items_is}
use Rattle.std.specs.Vec.{with_items}
use Rattle.aeth_report.specs.Channels.{channels_of}
use Rattle.aeth_network.specs.{ByNumber.each_by, Records.added_by, Records.channel_from}
use Rattle.aeth_network.proofs.Adding.{added-all}
use Rattle.aeth_network.proofs.making_log.first_log.Goals as goal

-- All sessions are added to the channels.
pub returns : goal.returns
returns c =
    let words = c.args.words.now in
    let session_starts = c.args.session_starts.now in
    let cycles = c.args.cycles in
    let made = c.in_ok-channels.channels in
    let count = c.deref_mut.ensures.len in
    let same = c.add_sessions.auto.channels in
    let size : length c.add_sessions.new.channels ≡ made.len = omega arith in
    let channels : (with_items made c.add_sessions.new.channels).items
    ≡ map (channel_from words cycles session_starts)
    (channels_of (length c.args.app.now.connections)) =
    with_items_is made c.add_sessions.new.channels size
    ∙ c.in_ok-add_sessions.ensures
    ∙ ap (each_by (added_by words cycles session_starts) 0)
    (c.deref_mut.ensures.value ∙ c.in_ok-channels.ensures)
    ∙ added-all words cycles session_starts (length c.args.app.now.connections) in
    let links = c.links.ensures.links in
    let flits : c.in_ok-vec.field-0.items ≡ replicate (length c.args.chip.now.links) 0 =
    c.in_ok-vec.ensures.items_if_clones_equal (λ y is. is) ∙ ap (λ n. replicate n 0) links in
    rw (channels, flits) refl
